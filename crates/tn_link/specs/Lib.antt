pub mod Places
pub mod Programs
pub mod Cells
pub mod Linking
pub mod PieceLookUps
pub mod Inner
