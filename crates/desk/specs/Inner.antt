-- What stands between proved functions: no reader has to believe it.
pub mod Places
pub mod Layout
pub mod Finding
pub mod Rounds
pub mod Claims
pub mod Examples
