pub mod Comparing
pub mod Fitting
pub mod Left
pub mod Nexts
