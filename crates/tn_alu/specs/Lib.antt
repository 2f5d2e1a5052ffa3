pub mod SignedWords
pub mod Checked
pub mod Divisions
pub mod Longs
pub mod Shifts
