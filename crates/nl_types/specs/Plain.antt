-- What a user sees of a volume: files, kept checkpoints, mounts and events, with no word of blocks.
pub mod Characters
pub mod Decimals
pub mod Limits
pub mod Refusals
pub mod Paths
pub mod Trees
pub mod Calls
pub mod NumberLists
pub mod Rows
pub mod Protection
pub mod Worlds
pub mod Runs
-- laws of it
pub mod CallLaws
pub mod Laws
pub mod CheckpointLaws
