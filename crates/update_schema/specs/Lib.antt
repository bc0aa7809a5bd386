pub mod Answers
pub mod Base
pub mod Deletions
pub mod Additions
pub mod Changes
