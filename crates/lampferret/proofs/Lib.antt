pub mod Giving
pub mod Unique
pub mod Refused
