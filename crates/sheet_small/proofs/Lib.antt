-- The laws, in the order of the argument.
pub mod Lists
pub mod Order
pub mod Drafts
pub mod Stating
pub mod Pruned
pub mod Walk
pub mod Answering
pub mod Tied
