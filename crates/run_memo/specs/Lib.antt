-- The memo of a run: what its functions ask and leave.
pub mod Inner
