-- What the calls about a store answer and leave in every lent buffer.
pub mod Stored
pub mod Calls
pub mod Inner
