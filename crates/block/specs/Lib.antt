-- A block of neighbouring variables that may be put in any order: its symmetries, its questions, and what they say at a prefix.
pub mod Block
pub mod BlockClaims
pub mod Inner
