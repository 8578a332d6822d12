pub mod Sits
pub mod Bounds
pub mod Tree
pub mod WrittenAccepted
pub mod Range
