pub mod Laws
pub mod Steps
pub mod Turns
pub mod Facts
pub mod Stopped
