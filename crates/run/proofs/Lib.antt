pub mod Whole
pub mod Tasks
pub mod Tied
