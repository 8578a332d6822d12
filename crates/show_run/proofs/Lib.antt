pub mod Found
pub mod BySteps
pub mod ByMinutes
pub mod Rows
