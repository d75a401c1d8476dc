pub mod Models
pub mod Wide
pub mod Said
