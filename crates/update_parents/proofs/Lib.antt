pub mod Rows
pub mod Receiving
pub mod Members
