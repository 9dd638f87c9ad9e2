-- What the calls about runs answer and leave in every lent buffer.
pub mod Run
pub mod Calls
pub mod Inner
