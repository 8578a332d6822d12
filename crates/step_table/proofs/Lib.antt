pub mod Bounds
pub mod Sweep
pub mod Next
pub mod Tabled
