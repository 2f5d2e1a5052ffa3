pub mod Keeping
pub mod Awaiting
pub mod Pokes
pub mod Boots
pub mod Transfers
pub mod Chains
pub mod Stepping
