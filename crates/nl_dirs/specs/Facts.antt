-- Facts about the definitions, for proofs of other crates.
pub mod Blocks
pub mod Filling
pub mod RecordOrder
pub mod Spelling
