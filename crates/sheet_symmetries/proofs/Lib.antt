pub mod Answers
pub mod Doubles
pub mod Respects
