pub mod Meeting
pub mod Matching
