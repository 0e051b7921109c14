-- Demand 1: the table of refusals, and what it says that the tests passed.
pub mod Deciding
pub mod Lines
pub mod BadValue
pub mod Refusing
pub mod Passed
pub mod Passing
