pub mod Directing
pub mod Tables
pub mod Planning
pub mod Projecting
