pub mod Arguments
pub mod Lines
pub mod Said
pub mod ScheduleLaws
pub mod ReadLoop
pub mod PlacedActs
