pub mod Moving
pub mod Filling
pub mod Asking
pub mod Gathering
pub mod Putting
