-- What the calls about a queue answer and leave in every lent buffer.
pub mod Told
pub mod Inner
