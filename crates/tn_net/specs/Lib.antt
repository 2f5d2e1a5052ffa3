pub mod RawNetworks
pub mod Lines
pub mod Faults
pub mod Networks
pub mod Paths
pub mod Trees
pub mod WholeTrees
pub mod Inner
