-- What laws and theorems speak of beside the definitions.
pub mod Members
pub mod Fit
