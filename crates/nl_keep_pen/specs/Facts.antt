-- Facts about the definitions, for proofs of other crates.
pub mod Volumes
pub mod UnreadTrees
pub mod Closing
