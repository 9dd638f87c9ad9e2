-- The first two exchanges that aren't closed, of a problem and of a run that is lent a sheet, pairs and a block; what the code is lent.
pub mod Open
pub mod Lent
pub mod Calls
pub mod Inner
