pub mod Going
pub mod Telling
pub mod Counting
pub mod Serving
pub mod Rounding
pub mod Held
pub mod Tied
