pub mod Modulo
pub mod Small
