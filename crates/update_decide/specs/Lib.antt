pub mod Answers
pub mod Entry
