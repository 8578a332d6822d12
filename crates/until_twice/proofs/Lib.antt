pub mod Sure
pub mod NoneSure
