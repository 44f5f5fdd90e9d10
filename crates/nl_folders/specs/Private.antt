-- What contracts of private functions and proofs name. No public contract stands on it.
pub mod Agreeing
pub mod Looking
pub mod Merging
pub mod Rewriting
pub mod Sides
pub mod Moved
pub mod Stages
