pub mod Turn
pub mod Cancels
