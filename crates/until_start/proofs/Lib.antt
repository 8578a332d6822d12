pub mod Lent
pub mod Waits
