pub mod Assembling
pub mod CommandWords
pub mod Tables
