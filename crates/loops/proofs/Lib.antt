pub mod Cleared
pub mod Ticks
pub mod LeftInTime
pub mod Chain
pub mod Accepted
pub mod Scratch
