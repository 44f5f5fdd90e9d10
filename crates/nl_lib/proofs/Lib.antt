pub mod Replies
pub mod Answered
pub mod MovedAway
pub mod CleanedLists
