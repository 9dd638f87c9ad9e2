-- The laws, in the order of the argument.
pub mod Store
pub mod Slots
pub mod Free
pub mod Calls
pub mod Answers
pub mod Sheets
pub mod Named
pub mod Isolated
pub mod Examples
pub mod Tied
