-- A run that is lent a sheet, pairs and a block: its definitions, what is claimed of it, and what the code answers.
pub mod Lent
pub mod Calls
pub mod LentClaims
pub mod LentExamples
pub mod Inner
