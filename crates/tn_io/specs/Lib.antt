pub mod FileLists
pub mod Stores
pub mod Outs
pub mod MemStores
pub mod SafeStores
pub mod MemOuts
pub mod FileOuts
pub mod FileOutLaws
