pub mod Led
pub mod Values
