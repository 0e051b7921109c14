-- A pass over the records, one record after the other.
pub mod Passed
