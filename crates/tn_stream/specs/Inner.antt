pub mod LowLengths
pub mod Tables
