pub mod Deleting
pub mod Placing
pub mod Leading
