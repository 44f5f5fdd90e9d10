pub mod Pins
pub mod Trees
pub mod Retention
pub mod Counts
-- for proofs of other crates
pub mod Facts
