pub mod Chain
pub mod Ids
pub mod Table
pub mod Path
