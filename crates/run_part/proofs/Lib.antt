-- The laws, and the tie.
pub mod Done
pub mod Tied
