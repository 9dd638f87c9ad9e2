-- What stands between proved functions: no reader has to believe it.
pub mod FamilyClaims
pub mod Walk
pub mod Numbered
