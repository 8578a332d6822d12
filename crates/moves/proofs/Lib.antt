pub mod Part
pub mod Collecting
pub mod Turns
