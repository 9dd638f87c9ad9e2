-- What stands between proved functions: no reader has to believe it.
pub mod Layout
pub mod Claims
pub mod Examples
