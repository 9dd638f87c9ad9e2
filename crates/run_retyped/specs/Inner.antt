-- What stands between proved functions: no reader has to believe it.
pub mod Turns
pub mod Figures
pub mod RetypedExamples
