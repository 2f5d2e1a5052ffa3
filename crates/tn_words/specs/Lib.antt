pub mod PlainWords
pub mod CommandWords
pub mod ReadWords
pub mod Inner
