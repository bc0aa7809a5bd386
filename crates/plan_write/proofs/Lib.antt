pub mod Rows
pub mod Running
pub mod Writing
