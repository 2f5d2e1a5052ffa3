pub mod Options
pub mod FewWords
pub mod SeveralWords
pub mod WordReading
pub mod AskedWords
