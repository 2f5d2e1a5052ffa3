pub mod FileListLaws
pub mod FilePlaces
pub mod OpenFiles
