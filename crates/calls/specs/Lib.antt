-- What the contracts of the calls by value cite.
pub mod Made
