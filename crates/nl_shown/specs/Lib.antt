pub mod Kept
pub mod Lost
pub mod Parts
pub mod Reverted
pub mod Unknown
pub mod Private
