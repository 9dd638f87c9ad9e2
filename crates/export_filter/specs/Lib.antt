-- What the filter for callers answers and leaves in the lent sets.
pub mod Filter
pub mod FilterBytes
