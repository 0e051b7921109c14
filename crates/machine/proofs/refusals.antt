-- Demand 1: the limits of the settings, the ranges of a record, and the numbers of the refusals.
pub mod Limits
pub mod Ranges
pub mod RecordLines
pub mod Numbered
