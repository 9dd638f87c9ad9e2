-- The laws of an entry.
pub mod Loops
pub mod Copies
