-- What stands between proved functions: no reader has to believe it.
pub mod Claims
pub mod Held
pub mod ClosedExamples
