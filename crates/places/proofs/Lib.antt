-- Laws of the counts, for this crate and those above it.
pub mod Counts
