-- What the functions that give turns say.
pub mod Calls
pub mod Meaning
pub mod RoundsCalls
pub mod Inner
