pub mod Moved
pub mod Went
pub mod Tested
pub mod Tried
pub mod Round
