pub mod Written
pub mod Run
