-- Facts about the definitions, for proofs of other crates.
pub mod Staying
pub mod StoredTrees
pub mod Tidied
pub mod Refusals
