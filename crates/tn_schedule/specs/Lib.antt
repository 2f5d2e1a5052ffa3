pub mod Keywords
pub mod Places
pub mod Statements
pub mod Schedules
pub mod ScheduleFaults
pub mod ScheduleReading
pub mod Inner
