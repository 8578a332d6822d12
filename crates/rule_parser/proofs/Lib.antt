pub mod Stack
pub mod Nodes
pub mod Around
pub mod Turns
pub mod StartTurn
pub mod BehindTurn
pub mod Ends
