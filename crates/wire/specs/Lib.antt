-- Numbers in lent bytes, and what is answered with them.
pub mod Wire
pub mod Outcomes
