pub mod Fill
pub mod Written
