pub mod Brought
pub mod Compared
pub mod Folders
pub mod History
pub mod Images
pub mod Looking
pub mod Opened
pub mod Pins
pub mod Runs
pub mod UnreadTrees
pub mod Capacities
-- for proofs of other crates
pub mod Facts
