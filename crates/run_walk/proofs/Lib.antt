pub mod RunBytes
pub mod Rest
pub mod Led
pub mod Tight
pub mod Walk
