-- What the contracts of the registers cite.
pub mod Touching
