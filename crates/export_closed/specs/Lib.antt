-- What the call that asks whether exchanges are closed answers and leaves in the lent buffer.
pub mod Closed
pub mod Calls
