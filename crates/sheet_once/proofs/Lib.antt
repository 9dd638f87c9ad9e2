-- The laws, in the order of the argument.
pub mod Figures
pub mod Words
pub mod RowSets
pub mod Reading
pub mod Claims
pub mod Bounds
pub mod Calls
