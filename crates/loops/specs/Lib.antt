pub mod Refusal
pub mod Accepted
pub mod LeftInTime
