pub mod Joined
pub mod Rows
pub mod Sizes
pub mod Same
