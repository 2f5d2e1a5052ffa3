mod Cases
pub mod Instructions
pub mod Codings
pub mod Loads
pub mod CodingLoads
pub mod Lengths
pub mod Shortest
