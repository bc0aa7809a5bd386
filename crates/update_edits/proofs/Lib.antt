pub mod Roles
pub mod Deciding
pub mod Marking
pub mod Carrying
pub mod Remarking
pub mod Marked
