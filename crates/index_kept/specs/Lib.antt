pub mod Kept
pub mod Noted
