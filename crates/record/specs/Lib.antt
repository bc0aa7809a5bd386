pub mod Answers
pub mod Says
pub mod Trees
pub mod Sifts
