-- Facts about the definitions, for proofs of other crates.
pub mod Below
pub mod Checkpoints
pub mod Forming
pub mod Packed
