pub mod Writing
pub mod Images
pub mod Facts
pub mod Private
