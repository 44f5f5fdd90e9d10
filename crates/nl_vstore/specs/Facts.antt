-- Facts about the definitions, for proofs of other crates.
pub mod BatchLaws
pub mod ClosedSegments
pub mod CountedRows
pub mod MovedBlocks
pub mod MovedNumbers
pub mod MovedOut
pub mod NumberAt
pub mod StoredLogs
