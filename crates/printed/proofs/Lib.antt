-- the lines
pub mod Text
-- a room that is short
pub mod Refusing
-- input longer than any file
pub mod Longer
-- the last line of a listing
pub mod Greatest
pub mod EndLine
-- the table of 01's edges
pub mod OneTimePair
pub mod Edges
