-- The memory seen as the grid of the crate `grid`: a call is a step of it, and its invariants hold after every history.
pub mod AsGrid
pub mod Steps
pub mod Spending
pub mod Histories
pub mod Names
