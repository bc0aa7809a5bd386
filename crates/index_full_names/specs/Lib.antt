pub mod Names
pub mod Sorted
pub mod Filed
