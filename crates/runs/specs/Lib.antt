pub mod Said
pub mod Hints
pub mod Promises
pub mod Demands
pub mod Meets
pub mod Fakes
pub mod Inner
