pub mod Own
pub mod Ranges
pub mod Going
pub mod Coming
pub mod Copied
pub mod Forgotten
