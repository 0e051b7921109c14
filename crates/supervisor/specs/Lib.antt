-- What the supervisor keeps from setup on, and what it promises of its table.
pub mod Kept
pub mod Desk
