pub mod Choices
pub mod Sources
pub mod Definitions
pub mod Faults
pub mod Inner
