pub mod Onward
pub mod Adding
pub mod Trees
pub mod Arriving
pub mod Rebuilding
pub mod Whole
pub mod Paper
