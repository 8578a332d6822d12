pub mod Untils
