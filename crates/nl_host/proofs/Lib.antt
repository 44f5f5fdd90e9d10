pub mod Words
pub mod Paths
pub mod Fronts
pub mod Askings
pub mod Places
pub mod Orders
pub mod Walks
