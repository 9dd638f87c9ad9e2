-- The walk along the tree: how it stopped.
pub mod Inner
