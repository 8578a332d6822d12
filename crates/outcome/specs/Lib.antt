pub mod Answer
pub mod Entry
pub mod Refusal
pub mod Met
