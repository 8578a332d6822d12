pub mod NodeText
pub mod NodeCount
pub mod Size
