pub mod Functions
pub mod Operations
pub mod Mnemonics
pub mod OperandRegister
