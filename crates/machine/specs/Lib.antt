-- The definitions of settings, places, records and refusals, in the order of document 01. What a reader must believe.
pub mod Settings
pub mod Places
pub mod Records
pub mod Grid
pub mod Turn
pub mod RefusalNumbers
pub mod Codes
-- What is promised of them.
pub mod promises
