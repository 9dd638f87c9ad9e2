-- The laws, in the order of the argument.
pub mod Prepared
pub mod Going
