pub mod RunBytes
pub mod Walk
