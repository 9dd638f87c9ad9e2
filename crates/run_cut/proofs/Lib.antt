-- The laws, in the order of the argument.
pub mod Parts
pub mod Resume
pub mod Counts
pub mod Together
pub mod Cases
pub mod Anywhere
