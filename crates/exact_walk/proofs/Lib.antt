pub mod Minutes
pub mod Next
pub mod Walk
