pub mod Numbers
pub mod Name
pub mod Lent
