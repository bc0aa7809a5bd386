pub mod Settling
pub mod Applying
