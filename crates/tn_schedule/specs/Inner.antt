-- What inner functions and loops hold to: no public clause cites it.
pub mod Readers
