-- Facts about the definitions, for proofs of other crates.
pub mod Simulations
pub mod Appending
