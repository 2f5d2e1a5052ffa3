-- What inner functions and loops hold to: no public clause cites it.
pub mod Lookups
pub mod LineEnds
pub mod Settling
pub mod SoFar
