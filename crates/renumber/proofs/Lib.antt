pub mod NewIds
pub mod Entry
