-- What stands between proved functions: no reader has to believe it.
pub mod Places
pub mod Layout
pub mod Tables
pub mod Pruning
