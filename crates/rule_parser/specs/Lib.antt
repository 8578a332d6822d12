pub mod Standing
pub mod Read
