-- The number of families on a sheet, or a dash, and what is claimed of it.
pub mod Figure
pub mod FigureClaims
pub mod FigureExamples
pub mod Inner
