pub mod Refusal
pub mod Widths
