-- What stands between proved functions: no reader has to believe it.
pub mod Begun
pub mod Prepared
pub mod Explored
