pub mod Symbolic
pub mod Same
pub mod ProgramStates
pub mod Programs
pub mod Follows
pub mod SymbolicRuns
pub mod Inner
