-- The laws, in the order of the argument.
pub mod Lent
pub mod LentQuestions
pub mod Compiling
pub mod Blocked
pub mod LentExamples
pub mod Calls
pub mod Tied
