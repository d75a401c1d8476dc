pub mod File
pub mod Check
pub mod Inner
pub mod Means
pub mod Tried
