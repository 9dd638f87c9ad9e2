-- A part of a run between two paths, and the claims.
pub mod Ranges
pub mod Claims
pub mod Inner
