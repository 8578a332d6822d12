pub mod Remarked
pub mod Walks
