pub mod Meaning
pub mod FilterCalls
pub mod Marks
pub mod Inner
