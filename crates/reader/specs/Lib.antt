-- What reading gives.
pub mod Inner
