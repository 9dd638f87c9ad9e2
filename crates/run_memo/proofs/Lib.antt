-- The laws of the memo.
pub mod Loops
pub mod Found
pub mod Walks
pub mod Recalled
pub mod Noted
pub mod Looked
