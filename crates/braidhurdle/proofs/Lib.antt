pub mod Telling
pub mod Naming
pub mod Tied
