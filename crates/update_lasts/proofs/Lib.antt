-- Demand 3 of the functions.
pub mod Kept
pub mod Tied
pub mod Going
pub mod Promises
