pub mod AsBox
pub mod Openings
pub mod Rows
pub mod TreeReads
pub mod Values
