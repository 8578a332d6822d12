pub mod Byte
pub mod Number
