-- Facts about the definitions, for proofs of other crates.
pub mod Chains
pub mod Ended
pub mod FewBirths
pub mod Frames
pub mod HeldPages
pub mod LowOffsets
pub mod MetPlaces
pub mod MetRanges
pub mod Numbers
pub mod Pairwise
pub mod Reading
pub mod RootByRoot
pub mod Staying
pub mod TreeData
pub mod TreeLevels
pub mod TreePlaces
