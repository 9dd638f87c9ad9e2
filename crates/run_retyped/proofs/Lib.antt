-- The laws, in the order of the argument.
pub mod Turns
pub mod FilterAgain
pub mod SameSearch
pub mod Retyped
pub mod RetypedExamples
pub mod LentRetyped
