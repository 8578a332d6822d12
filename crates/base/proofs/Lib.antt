pub mod Truth
pub mod Compare
pub mod Tabulate
pub mod Every
pub mod Sum
pub mod Pigeonhole
pub mod Entries
pub mod Same
