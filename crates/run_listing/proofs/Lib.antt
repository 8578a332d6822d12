pub mod Sizes
pub mod EndText
pub mod Lines
pub mod Before
pub mod Told
