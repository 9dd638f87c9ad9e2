-- What stands between proved functions: no reader has to believe it.
pub mod WellFormed
pub mod Endings
pub mod Pruning
pub mod Filling
