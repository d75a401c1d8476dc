pub mod Turning
pub mod Leaving
pub mod Lent
pub mod Answered
pub mod Unique
pub mod Meets
