pub mod TreeLaws
pub mod SymbolLaws
pub mod PrintingLaws
pub mod ListingLaws
pub mod WorkedListings
