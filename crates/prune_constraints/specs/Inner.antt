-- What stands between proved functions: no reader has to believe it.
pub mod Lanes
pub mod LookUps
pub mod Revised
pub mod Steps
