pub mod Lists
pub mod Format
pub mod Control
pub mod Said
pub mod RoundTrip
pub mod Inner
