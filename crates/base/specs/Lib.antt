pub mod Tabulate
pub mod Every
pub mod Sum
pub mod Yes
pub mod Entries
