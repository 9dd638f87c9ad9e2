-- A run as a walk along the nodes of the tree, and what the functions of the search ask and leave.
pub mod Meaning
pub mod Inner
