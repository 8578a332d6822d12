pub mod Passed
pub mod OnLines
