pub mod Tied
pub mod TiedRuns
pub mod TiedLists
pub mod TiedDesk
