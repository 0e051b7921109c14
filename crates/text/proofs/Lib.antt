-- Laws of texts put into a room, for this crate and those above it.
pub mod Digits
pub mod Plain
pub mod Putting
