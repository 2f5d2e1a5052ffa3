-- What the functions inside promise one another. A reader of what `run` promises need not read on here.
pub mod Stages
pub mod Ends
pub mod Systems
pub mod OneTrees
pub mod Listings
pub mod Replays
