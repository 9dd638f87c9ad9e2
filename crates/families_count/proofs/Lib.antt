-- The laws that the proofs of this crate share.
pub mod Images
pub mod Arrays
pub mod Bare
pub mod ReportRuns
pub mod Tied
