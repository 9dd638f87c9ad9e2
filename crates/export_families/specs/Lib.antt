-- What the number of families for callers is as an answer in lent bytes.
pub mod Families
