-- A run that goes on from its last node: what the functions ask and leave.
pub mod Inner
