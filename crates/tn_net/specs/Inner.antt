-- What inner functions and loops hold to: no public clause cites it.
pub mod Tables
pub mod Walks
pub mod Visits
pub mod Loads
