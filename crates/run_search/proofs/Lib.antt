pub mod Begun
pub mod Prepared
pub mod Explored
