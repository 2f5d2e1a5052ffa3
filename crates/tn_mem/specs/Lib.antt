pub mod Sizes
pub mod Spaces
pub mod Memories
pub mod Guards
pub mod Holdings
pub mod Inner
