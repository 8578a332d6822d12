pub mod TimesSettled
pub mod Settled
