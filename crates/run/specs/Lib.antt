-- What a run answers.
pub mod Meaning
pub mod Calls
pub mod Inner
