pub mod Volumes
pub mod Shown
pub mod Stored
pub mod Made
pub mod Forgotten
pub mod Refusals
pub mod MinorOnes
pub mod Lasting
-- for proofs of other crates
pub mod Facts
pub mod Private
