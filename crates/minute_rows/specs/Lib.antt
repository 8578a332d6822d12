pub mod Numbers
pub mod Filled
