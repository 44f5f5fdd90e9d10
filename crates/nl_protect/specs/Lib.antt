pub mod Keeping
pub mod Configuration
pub mod Laws
