pub mod Numbers
pub mod Told
pub mod Ranges
pub mod ToldChanges
pub mod Listings
pub mod Gaps
