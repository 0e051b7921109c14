pub mod Contract
pub mod Counting
pub mod Opened
pub mod Running
