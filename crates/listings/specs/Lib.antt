pub mod Text
pub mod Listing
pub mod Said
pub mod Inner
