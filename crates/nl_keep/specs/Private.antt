-- What this crate's own proofs rest on.
pub mod Judged
pub mod Costs
pub mod Refused
