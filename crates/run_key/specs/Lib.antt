-- The key of a prefix.
pub mod Inner
