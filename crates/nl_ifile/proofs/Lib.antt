pub mod Spelling
pub mod BlockBytes
pub mod Changes
pub mod BlockChanges
pub mod NewFile
pub mod Blocks
pub mod Finding
