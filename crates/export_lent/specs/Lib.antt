-- What the calls that are lent pairs and a block answer and leave in every lent buffer.
pub mod Lent
pub mod Calls
