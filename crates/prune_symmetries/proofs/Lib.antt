pub mod Levels
pub mod CutsMade
pub mod Cuts
pub mod ImageTables
pub mod Turns
pub mod Splits
pub mod Nogoods
pub mod Marks
