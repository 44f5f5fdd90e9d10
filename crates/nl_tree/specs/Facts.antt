-- Facts about the definitions, for proofs of other crates.
pub mod AsList
pub mod Becoming
pub mod CopiedBytes
pub mod FirstCounts
pub mod FirstTree
pub mod HeldContents
pub mod PageBytes
pub mod Places
pub mod ReadingCalls
pub mod Refusals
pub mod Rising
