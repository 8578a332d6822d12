pub mod Rows
pub mod Lowered
