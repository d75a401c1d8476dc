pub mod Search
pub mod Lists
pub mod Sets
pub mod Said
