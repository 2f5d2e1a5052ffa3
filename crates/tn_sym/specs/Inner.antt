pub mod Covers
pub mod Items
pub mod Beside
pub mod NetsBeside
pub mod Wholes
-- What inner functions and loops hold to: no public clause cites it.
pub mod Tables
pub mod Stops
pub mod Readings
pub mod Comparisons
