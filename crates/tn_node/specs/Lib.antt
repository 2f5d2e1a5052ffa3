pub mod Engines
pub mod Nodes
pub mod Bootstraps
pub mod Links
pub mod Runs
pub mod WholeActs
