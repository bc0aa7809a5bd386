pub mod Hash
pub mod Full
pub mod Told
pub mod Table
