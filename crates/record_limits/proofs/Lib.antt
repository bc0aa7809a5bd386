pub mod Summing
pub mod Within
