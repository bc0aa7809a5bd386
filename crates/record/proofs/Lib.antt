pub mod Lowest
pub mod Ruling
pub mod Sifting
pub mod Testing
pub mod Naming
pub mod Comparing
pub mod Dotted
pub mod Slots
