-- What stands between proved functions: no reader has to believe it.
pub mod Links
pub mod Steps
