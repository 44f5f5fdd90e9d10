pub mod Manifests
pub mod Readings
pub mod HostTrees
pub mod Sealed
pub mod Folders
pub mod HostDifferences
pub mod Unread
pub mod Private
