pub mod Answers
pub mod Roles
pub mod Edit
pub mod Marks
