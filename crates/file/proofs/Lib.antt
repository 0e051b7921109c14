-- Laws and theorems of the schedule file.
pub mod Cases
pub mod Numbers
pub mod Lengths
pub mod Headers
pub mod Refusing
pub mod Writes
pub mod FileBack
pub mod ScheduleBack
