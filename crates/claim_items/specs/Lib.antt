pub mod Write
pub mod Items
pub mod ItemRight
pub mod Listed
pub mod SmallInputs
