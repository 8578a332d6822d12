pub mod Signs
pub mod Seen
pub mod Sound
pub mod Complete
pub mod Judged
pub mod From
