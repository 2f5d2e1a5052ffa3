pub mod FunctionCodes
pub mod CodedFunctions
pub mod Finding
pub mod OperationCodes
pub mod Naming
