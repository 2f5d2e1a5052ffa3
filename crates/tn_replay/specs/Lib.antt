pub mod PrintedLines
pub mod Replays
pub mod ReplayEnds
pub mod Truth
pub mod Inner
