-- Laws of a schedule's bytes in a room, for this crate and those above it.
pub mod Bytes
pub mod Codes
