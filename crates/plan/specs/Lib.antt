pub mod Plan
pub mod Origin
pub mod Draft
pub mod Sources
pub mod Table
pub mod Walk
pub mod Named
