-- Laws of the decisions that belong to no one function.
pub mod Rows
pub mod Accepting
pub mod Deciding
pub mod Determined
