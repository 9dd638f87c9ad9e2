-- What the call that merges two lists answers and leaves in every lent buffer.
pub mod Merged
