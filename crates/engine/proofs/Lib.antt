pub mod Descent
pub mod Ascent
pub mod OnTheWay
pub mod Resting
