pub mod Target
pub mod Stored
pub mod Slots
