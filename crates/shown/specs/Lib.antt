pub mod Shown
pub mod Steps
pub mod Exact
pub mod Search
pub mod Showable
