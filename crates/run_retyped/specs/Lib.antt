-- Retyped exchanges, and the filter applied again and by turns.
pub mod Retyped
pub mod FilterAgain
pub mod LentClaims
pub mod Inner
