pub mod Puts
pub mod Allowed
pub mod Stored
pub mod Bytes
pub mod Frames
pub mod Refusals
pub mod SpaceLemmas
pub mod Holding
