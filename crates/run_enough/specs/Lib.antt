-- At least m plans? The answer, what a caller holds, and what is claimed of it.
pub mod AtLeast
pub mod Lent
pub mod Inner
