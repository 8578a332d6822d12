pub mod Decimal
pub mod Value
pub mod Leading
pub mod DigitRange
