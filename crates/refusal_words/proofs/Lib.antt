pub mod Rows
pub mod Texts
pub mod Sizes
pub mod Filled
