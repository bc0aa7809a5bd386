pub mod Uniquely
pub mod Halving
pub mod Inserting
pub mod Seeking
pub mod Checking
