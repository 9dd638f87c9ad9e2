pub mod SmallSheets
