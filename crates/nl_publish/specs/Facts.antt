-- Facts about the definitions, for proofs of other crates.
pub mod CachedPages
pub mod Growing
pub mod KeptHoldings
pub mod MountEvents
pub mod Staying
