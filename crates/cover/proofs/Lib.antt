pub mod Searched
pub mod Covering
