pub mod Search
pub mod Fitting
pub mod Accepted
pub mod Answers
pub mod Passed
