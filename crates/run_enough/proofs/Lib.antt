-- The laws, in the order of the argument.
pub mod AtLeast
pub mod EnoughExamples
pub mod LentEnough
