pub mod Chart
pub mod Run
pub mod Path
pub mod Formula
pub mod Holds
pub mod Accepted
pub mod Kind
pub mod Detail
