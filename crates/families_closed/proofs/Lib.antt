-- The laws, in the order of the argument.
pub mod Open
pub mod Codes
pub mod Testing
pub mod Calls
pub mod ClosedExamples
pub mod Tied
