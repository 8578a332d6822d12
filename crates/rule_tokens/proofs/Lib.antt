pub mod StartLaw
pub mod SignLaw
