pub mod Index
pub mod Finds
