-- Proofs that a memory and a guarded memory are spaces, which no reader of the promises needs.
pub mod AccessTests
pub mod Reads
pub mod MemoryLaws
pub mod GuardLaws
