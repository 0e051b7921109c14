-- What the proofs of the calls share.
pub mod ByDecision
pub mod Making
pub mod Determined
