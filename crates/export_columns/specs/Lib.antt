-- What the calls about columns answer and leave in every lent buffer.
pub mod Calls
