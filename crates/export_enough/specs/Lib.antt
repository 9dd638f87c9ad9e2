-- What the call that asks for so many plans answers and leaves in the lent buffer.
pub mod Enough
pub mod Calls
pub mod Inner
