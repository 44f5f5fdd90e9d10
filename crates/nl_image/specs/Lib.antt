pub mod Parts
pub mod Conditions
pub mod StoreImages
pub mod Laws
pub mod ReadPages
pub mod Reading
pub mod Facts
