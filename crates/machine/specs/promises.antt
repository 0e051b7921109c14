-- The promises, each in terms of document 01.
pub mod Numbers
pub mod Ranges
