pub mod Drafted
pub mod FirstLogs
pub mod Formats
pub mod FirstCounts
pub mod Moving
pub mod NotedEvents
pub mod Rooms
pub mod ShownStores
