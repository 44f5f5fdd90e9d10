-- What contracts of private functions and proofs name. No public contract stands on it.
pub mod AlikeNames
pub mod BesideTrees
pub mod ChangedFiles
pub mod DirectoryBlocks
pub mod InodeBlocks
pub mod Naming
pub mod SoundFiles
pub mod SoundInodes
pub mod Turns
pub mod Walks
