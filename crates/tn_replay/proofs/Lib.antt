pub mod TextLaws
pub mod Settling
pub mod LineLaws
pub mod ReplayLaws
pub mod TruthLaws
