pub mod Rows
pub mod Refused
pub mod Unique
