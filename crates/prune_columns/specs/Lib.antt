pub mod Split
pub mod Projected
