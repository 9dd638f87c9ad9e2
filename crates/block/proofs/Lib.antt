-- The laws, in the order of the argument.
pub mod Ascending
pub mod Orderings
pub mod Table
pub mod Tables
pub mod Block
pub mod BlockSets
pub mod BlockOrderings
pub mod BlockReordered
pub mod BlockLent
pub mod Claimed
pub mod BlockExamples
pub mod BlockSetsExamples
