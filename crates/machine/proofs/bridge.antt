-- The settings and a record as the crate `grid` sees them: numbers, rules, which register a turn touches, and where a
-- task comes to.
pub mod Numbering
pub mod Numbers
pub mod Turning
pub mod Arriving
pub mod Outs
pub mod Accesses
pub mod Turns
pub mod AsRules
