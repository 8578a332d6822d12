pub mod Chain
pub mod Judgeable
pub mod Marks
pub mod Answers
pub mod Promise
