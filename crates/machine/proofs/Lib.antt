-- Laws and theorems that belong to no one function, and none to a lent memory.
pub mod Determined
pub mod refusals
pub mod bridge
