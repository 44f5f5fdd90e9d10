pub mod Views
pub mod LedgerEvents
pub mod Opened
pub mod PenImages
pub mod SameFiles
pub mod SameTrees
pub mod Facts
pub mod Private
