-- Facts about the definitions, for proofs of other crates.
pub mod ImageBlocks
pub mod KeptLogs
pub mod LogNumbers
