pub mod PrintedOuts
pub mod Inner
pub mod TreeTexts
pub mod Lists
pub mod Stretches
pub mod Symbols
pub mod ListingTexts
