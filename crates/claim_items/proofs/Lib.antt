pub mod Items
pub mod Listing
pub mod SmallInputs
