pub mod Regions
pub mod Checks
pub mod Images
