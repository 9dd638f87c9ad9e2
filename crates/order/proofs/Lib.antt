-- The laws, in the order of the argument.
pub mod Order
pub mod Reordered
pub mod LeadersBy
pub mod SetsBy
pub mod RunBy
pub mod Demanded
pub mod Placing
