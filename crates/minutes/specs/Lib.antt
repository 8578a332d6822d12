pub mod Makes
pub mod RowBegins
pub mod Table
pub mod Untils
