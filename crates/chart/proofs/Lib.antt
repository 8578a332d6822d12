pub mod Arrow
pub mod Most
pub mod Passed
pub mod Chart
pub mod WellFormed
pub mod Converse
pub mod Reading
