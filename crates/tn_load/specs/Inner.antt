pub mod PlainSpaces
pub mod NodeActs
pub mod Lives
pub mod Loadings

-- What inner functions and loops hold to: no public clause cites it.
