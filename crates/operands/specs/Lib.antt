pub mod FromOperands
