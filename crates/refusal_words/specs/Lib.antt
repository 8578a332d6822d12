pub mod Bytes
pub mod Sentences
pub mod Words
