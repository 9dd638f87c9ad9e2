-- A run in parts, and the claims.
pub mod Parts
pub mod Between
pub mod Claims
pub mod Inner
