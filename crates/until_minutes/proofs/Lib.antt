pub mod Alike
pub mod Parts
pub mod Lent
pub mod Last
pub mod FirstRow
pub mod Waits
pub mod FromRows
