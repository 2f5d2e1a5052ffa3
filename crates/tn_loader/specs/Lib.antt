pub mod Commands
pub mod Instructions
pub mod Mnemonics
pub mod Primary
pub mod Secondary
