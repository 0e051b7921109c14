-- What the schedule file's functions add to the definitions of `machine`.
pub mod Next
pub mod Asked
