-- Demand 2, and what every board shares: one call on one memory.
pub mod Cells
pub mod Fresh
pub mod SettingUp
pub mod Rules
pub mod OneAccess
pub mod Effects
pub mod Surplus
pub mod After
pub mod Telling
pub mod Lent
pub mod Fitting
pub mod Outcomes
pub mod Spending
