-- 01, "Schedule file": the definitions.
pub mod File
-- What is promised of them.
pub mod Refusing
pub mod RoundTrip
