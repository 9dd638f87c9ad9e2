-- What stands between proved functions: no reader has to believe it.
pub mod Walk
pub mod Memo
pub mod Pair
pub mod Cut
