pub mod Positions
pub mod SegmentTrees
pub mod Orders
pub mod Marks
pub mod Layouts
