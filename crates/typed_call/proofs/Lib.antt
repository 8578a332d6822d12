pub mod Enough
pub mod Told
