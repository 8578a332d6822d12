pub mod LeftFirst
