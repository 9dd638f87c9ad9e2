-- The laws, in the order of the argument.
pub mod Queue
pub mod Rounds
pub mod Cases
pub mod Sheets
pub mod Bytes
pub mod Counts
pub mod Slots
pub mod Held
pub mod Meaning
pub mod Refines
pub mod Turning
pub mod Turned
pub mod Calls
pub mod RoundCalls
pub mod Stretch
