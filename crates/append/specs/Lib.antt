pub mod Piece
pub mod BigEndian
