pub mod SetBytes
pub mod Filtered
pub mod FilterBytes
