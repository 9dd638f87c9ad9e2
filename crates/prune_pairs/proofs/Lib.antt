-- The laws, in the order of the argument.
pub mod Covers
pub mod Cuts
pub mod Partners
pub mod Settled
pub mod OneCut
pub mod ArcsLoop
