pub mod Answers
pub mod Read
pub mod Says
pub mod Only
pub mod Fits
