pub mod Answers
pub mod Tied
