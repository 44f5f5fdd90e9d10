-- Facts about the definitions, for proofs of other crates.
pub mod Found
pub mod ImageEntries
pub mod Rising
