-- What stands between proved functions: no reader has to believe it.
pub mod Parts
pub mod Fill
pub mod Steps
pub mod Decoding
pub mod Form
