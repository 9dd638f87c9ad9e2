pub mod Copies
pub mod Links
