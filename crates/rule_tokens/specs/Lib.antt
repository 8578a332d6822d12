pub mod Tags
pub mod Start
pub mod Sign
