pub mod Rows
pub mod Rising
pub mod Found
pub mod Deleting
pub mod Numbering
pub mod Placing
pub mod Columns
pub mod Changing
