pub mod Files
pub mod Printed
