-- What contracts of private functions and proofs name. No public contract stands on it.
pub mod Clean
pub mod NextPlace
pub mod Room
