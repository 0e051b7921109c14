-- Demand 3: what was answered last, who is served and when, and the schedule that needs the bound.
pub mod Told
pub mod Seekers
pub mod Served
pub mod Light
pub mod Leads
pub mod Worst
pub mod WorstTurns
pub mod Laps
pub mod WorstRun
pub mod Exact
pub mod Demand3
pub mod Setups
pub mod LightExact
pub mod Reached
pub mod Notes
