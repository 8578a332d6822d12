pub mod Choice
pub mod Cleared
pub mod Sided
