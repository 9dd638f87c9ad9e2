-- The laws, in the order of the argument.
pub mod Between
pub mod Within
pub mod Joined
