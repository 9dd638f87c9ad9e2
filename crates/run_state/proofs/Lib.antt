pub mod Walk
pub mod Outcome
pub mod Prefix
pub mod Memo
pub mod Written
pub mod Listing
pub mod Stops
