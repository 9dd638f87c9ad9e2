-- The small sheets, what is answered; then what the functions inside the crate say to each other.
pub mod Small
pub mod Answers
pub mod Calls
pub mod Inner
