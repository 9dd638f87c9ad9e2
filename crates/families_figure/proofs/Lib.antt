-- The sheet without its exchanges, the figure, how code gets it, and the examples.
pub mod BareSheet
pub mod FamiliesLent
pub mod Counting
pub mod FigureExamples
