-- Laws of the schedule file that belong to no one function.
pub mod Determined
pub mod Codes
