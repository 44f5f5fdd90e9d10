-- Facts about the definitions, for proofs of other crates.
pub mod EqualInodes
pub mod MovedNeeds
pub mod Refusals
pub mod SameFiles
