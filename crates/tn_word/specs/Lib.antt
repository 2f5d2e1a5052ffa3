pub mod Channels
pub mod Words
