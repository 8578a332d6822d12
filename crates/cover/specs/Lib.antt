pub mod Covered
pub mod Search
