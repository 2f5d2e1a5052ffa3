pub mod PrintedOutLaws
pub mod Printing
