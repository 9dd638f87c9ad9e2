-- What callers hold, as statements.
pub mod CountedCalls
pub mod Demands
pub mod DemandsLent
pub mod RetypedCalls
pub mod EnoughCalls
pub mod Moments
pub mod FamilyCalls
pub mod Exported
pub mod ExportedLent
pub mod PartsCalls
pub mod EitherCalls
pub mod Reported
pub mod JoinedClaims
pub mod JoinedHeads
pub mod JoinedExamples
