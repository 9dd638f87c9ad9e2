-- What the call about small sheets answers and leaves in every lent buffer.
pub mod SmallSheets
pub mod Calls
