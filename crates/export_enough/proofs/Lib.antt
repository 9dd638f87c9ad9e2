pub mod AtLeast
pub mod Tied
