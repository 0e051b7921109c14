-- Laws of writing a line piece by piece, for this crate and those above it.
pub mod Writing
pub mod Paging
