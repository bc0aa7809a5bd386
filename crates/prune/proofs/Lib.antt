pub mod Bridge
pub mod Parts
pub mod Keeping
pub mod Steps
