pub mod Text
pub mod Members
pub mod Lists
pub mod Refusals
pub mod Turns
pub mod Tried
pub mod Unique
