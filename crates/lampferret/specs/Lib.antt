pub mod Boundary
pub mod Refused
