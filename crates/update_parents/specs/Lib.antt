pub mod Answers
pub mod Target
