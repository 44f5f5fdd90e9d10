-- Facts about the definitions, for proofs of other crates.
pub mod Inodes
pub mod Reading
pub mod Writing
