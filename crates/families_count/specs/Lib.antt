-- The figure for callers, and what the code is lent.
pub mod Told
pub mod Calls
pub mod Inner
