pub mod Decimal
pub mod Value
