pub mod Sources
pub mod NamedFiles
pub mod Systems
pub mod Executions
pub mod Faults
pub mod Answers
pub mod Inner
