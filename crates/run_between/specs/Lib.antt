-- The walk along the nodes between two paths: what the functions ask and leave.
pub mod Inner
