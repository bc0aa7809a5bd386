pub mod Seeking
pub mod Entered
