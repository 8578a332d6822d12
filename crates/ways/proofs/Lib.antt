pub mod Offer
pub mod Reaching
pub mod Weights
