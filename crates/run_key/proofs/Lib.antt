-- The laws of a key.
pub mod Loops
