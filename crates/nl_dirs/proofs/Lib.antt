pub mod Holding
pub mod Ascending
pub mod Counting
pub mod PageReading
pub mod Packings
