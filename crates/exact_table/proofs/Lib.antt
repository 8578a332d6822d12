pub mod Least
pub mod Lowering
pub mod Keeping
pub mod Sweeping
pub mod Collecting
pub mod Row
