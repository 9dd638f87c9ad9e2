-- Families of solutions, and what the code that counts them keeps.
pub mod Families
pub mod Inner
