pub mod Records
pub mod Packing
pub mod Listings
pub mod Laws
pub mod Facts
pub mod Private
