pub mod Bytes
pub mod Shape
pub mod Refusals
pub mod Rows
