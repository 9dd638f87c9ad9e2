-- The task of a run, and what is put among the numbers.
pub mod Inner
