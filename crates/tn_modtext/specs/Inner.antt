pub mod Drafts
pub mod LibraryDrafts
pub mod Writing
