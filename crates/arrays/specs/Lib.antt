-- The layout of the compiled problem.
pub mod Inner
