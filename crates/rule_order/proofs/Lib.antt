pub mod Pieces
pub mod Fields
pub mod LeftFirst
pub mod LeftFirstWritten
