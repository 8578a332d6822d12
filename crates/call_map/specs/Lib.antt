pub mod Covered
pub mod Refusals
pub mod Rows
