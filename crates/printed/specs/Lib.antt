-- 01, "The listing, whole": the definition.
pub mod Listing
pub mod Listed
-- What is promised of it, and the table of the starred edges.
pub mod Text
pub mod Refusing
pub mod EndLine
pub mod Edges
