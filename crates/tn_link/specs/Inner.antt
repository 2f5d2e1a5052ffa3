-- What inner functions and loops hold to: no public clause cites it.
pub mod Tables
pub mod Elements
pub mod Frames
pub mod Lengths
pub mod Plans
