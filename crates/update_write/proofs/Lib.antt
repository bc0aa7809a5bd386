pub mod Verdict
pub mod Edited
pub mod Ending
