pub mod Lent
pub mod Tied
