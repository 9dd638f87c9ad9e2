-- The definitions of paper 02, #103, what the answers mean, and what callers hold.
pub mod Columns
pub mod Meaning
pub mod Calls
pub mod Inner
