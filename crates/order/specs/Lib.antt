-- The settling order, a problem with its variables in another order, and what the code answers.
pub mod Order
pub mod Claims
pub mod Reordered
pub mod RunBy
pub mod Examples
pub mod Inner
