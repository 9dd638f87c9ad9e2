-- The laws, in the order of the argument.
pub mod Prefixes
pub mod Steps
pub mod Walks
pub mod Ends
