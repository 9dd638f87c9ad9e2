-- The symmetry store, what the answers mean, and what callers hold.
pub mod Store
pub mod Meaning
pub mod Calls
pub mod Inner
