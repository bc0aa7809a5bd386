pub mod Looking
pub mod Sounding
pub mod Opening
pub mod Standing
