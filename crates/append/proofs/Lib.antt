pub mod Append
pub mod Four
