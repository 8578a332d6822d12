pub mod Format
pub mod Passed
