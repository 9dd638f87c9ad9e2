-- The laws of families, then those of the code that counts them.
pub mod Joined
pub mod FamilyCount
pub mod Closed
pub mod FewerFamilies
pub mod JoinedBy
pub mod FamilyExamples
pub mod Numbers
pub mod Walk
pub mod Keys
pub mod Rows
pub mod Chains
pub mod Turns
