-- The definitions that speak of a lent memory, in the order of document 01. What a reader must believe.
pub mod Memory
pub mod Touching
pub mod Refusals
pub mod Answers
pub mod Calls
pub mod History
pub mod Lent
-- What is promised of them.
pub mod promises
