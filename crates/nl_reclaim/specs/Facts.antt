-- Facts about the definitions, for proofs of other crates.
pub mod ClosedSegments
pub mod Moves
pub mod Reclaims
pub mod Rounds
