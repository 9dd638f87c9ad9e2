-- Parts of a run joined by their heads.
pub mod Join
pub mod Calls
pub mod Inner
