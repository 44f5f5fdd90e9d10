mod Apart
pub mod Insertions
pub mod LostTrees
pub mod RevertedTrees
pub mod Roots
