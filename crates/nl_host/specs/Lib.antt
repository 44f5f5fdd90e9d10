pub mod Patterns
pub mod Selections
pub mod HostPaths
pub mod Identities
pub mod Trails
pub mod Puts
pub mod Standing
