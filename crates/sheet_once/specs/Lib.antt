-- What a caller of `small_sheet` holds.
pub mod Held
pub mod Inner
