-- What contracts of private functions and proofs name. No public contract stands on it.
pub mod Chains
pub mod Edits
pub mod Listing
pub mod Renewing
pub mod TreeLevels
pub mod Walks
pub mod Writing
