pub mod Promises
pub mod Inner
pub mod Meets
