-- A part of a run between two paths: what a caller holds.
pub mod Calls
