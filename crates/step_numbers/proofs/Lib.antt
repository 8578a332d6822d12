pub mod Storing
pub mod Slots
