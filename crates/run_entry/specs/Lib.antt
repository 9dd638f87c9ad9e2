-- An entry of the memo.
pub mod Inner
