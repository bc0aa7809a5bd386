pub mod Counting
pub mod Putting
pub mod Climbing
pub mod Showing
pub mod Lines
