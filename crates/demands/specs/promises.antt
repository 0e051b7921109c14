-- The promises, each in terms of document 01 or of the user's demands.
pub mod Rows
pub mod Refusing
pub mod SettingUp
pub mod Rules
pub mod OneAccess
pub mod Surplus
pub mod Telling
pub mod Demands
pub mod Setups
pub mod Light
pub mod Reached
pub mod Notes
