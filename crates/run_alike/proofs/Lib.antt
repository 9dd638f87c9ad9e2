-- The laws, in the order of the argument.
pub mod Sets
pub mod Below
pub mod Residue
pub mod Apart
pub mod Law
pub mod Kept
pub mod Cases
