-- What the answers mean, and what the parts of the questioning say.
pub mod Meaning
pub mod Calls
pub mod Inner
