pub mod Puts
pub mod Unique
