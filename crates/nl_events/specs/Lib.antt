pub mod Inside
pub mod NeededBlocks
pub mod CleanedPens
pub mod Opened
pub mod Rooms
pub mod SameFiles
pub mod SameTrees
pub mod Facts
