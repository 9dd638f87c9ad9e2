-- What planner_join answers and leaves in the lent answer.
pub mod Joined
pub mod Inner
