-- Numbers, blocks and segments, each followed by its laws.
pub mod PartialMaps
pub mod Entries
pub mod Lifetimes
pub mod NeedLaws
pub mod Roots
pub mod RootChanges
pub mod Segments
pub mod Placing
pub mod PlacingLaws
pub mod GrowingLaws
