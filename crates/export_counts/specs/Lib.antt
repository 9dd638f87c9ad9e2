-- Counts as bytes.
pub mod Tallied
pub mod Inner
