pub mod Coding
pub mod Operand
pub mod Sign
