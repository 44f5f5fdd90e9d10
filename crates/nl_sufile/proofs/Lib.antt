pub mod NextLog
pub mod ActiveSegment
pub mod UsedTests
pub mod CleanCounts
pub mod FollowedBlocks
pub mod GrownCounts
pub mod Room
