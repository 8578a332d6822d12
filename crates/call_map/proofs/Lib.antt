pub mod Tested
pub mod Under
pub mod Overview
pub mod Chain
