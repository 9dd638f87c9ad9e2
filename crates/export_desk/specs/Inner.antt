-- What stands between proved functions: no reader has to believe it.
pub mod Answers
pub mod Fits
