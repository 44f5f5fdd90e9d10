-- What contracts of private functions and proofs name. No public contract stands on it.
pub mod Reading
pub mod Opening
pub mod Places
pub mod Sealing
pub mod Looking
pub mod Comparing
