-- The queue, what the answers mean, and the claims; the status of a slot, and rounds.
pub mod Queue
pub mod Meaning
pub mod Claims
pub mod Calls
pub mod Status
pub mod StatusCalls
pub mod Rounds
pub mod RoundsClaims
pub mod Inner
