pub mod Numbers
pub mod Unique
pub mod Order
pub mod Values
pub mod Said
