pub mod Walking
pub mod Naming
