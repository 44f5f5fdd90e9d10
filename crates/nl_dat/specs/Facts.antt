-- Facts about the definitions, for proofs of other crates.
pub mod BlockCounts
pub mod ImageEntries
pub mod Positions
pub mod ShownSpace
