-- Facts about the definitions, for proofs of other crates.
pub mod Bases
pub mod Few
pub mod FilesAlike
pub mod First
pub mod Following
pub mod Holdings
pub mod InodesAlike
pub mod OneSettling
pub mod Ones
pub mod PutsAlike
pub mod Slots
pub mod Staying
pub mod Steps
pub mod TreeLaws
