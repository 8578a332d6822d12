pub mod TimesSettled
pub mod Tree
pub mod Begun
pub mod Once
