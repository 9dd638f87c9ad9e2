-- What the report for callers answers and leaves in the lent buffer.
pub mod Report
pub mod Inner
