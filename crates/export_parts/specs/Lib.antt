-- What a call of a part of a run answers and leaves in every lent buffer.
pub mod Head
pub mod Parts
