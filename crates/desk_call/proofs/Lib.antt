pub mod Answer
pub mod OneMore
