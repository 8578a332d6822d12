pub mod Further
pub mod Byte
pub mod NumberLaw
