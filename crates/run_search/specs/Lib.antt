-- What is made of a compiled problem and of a lending before the search, and what the search leaves.
pub mod Inner
