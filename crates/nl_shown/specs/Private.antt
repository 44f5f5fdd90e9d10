-- What contracts of private functions and proofs name. No public contract stands on it.
pub mod Inserting
