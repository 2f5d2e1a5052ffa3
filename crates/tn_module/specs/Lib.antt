pub mod Modules
pub mod Names
pub mod Validity
pub mod Faults
pub mod Ranges
pub mod Inner
