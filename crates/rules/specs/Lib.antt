-- What the decisions' contracts cite.
pub mod Decision
