pub mod Lent
pub mod Risen
pub mod Meets
