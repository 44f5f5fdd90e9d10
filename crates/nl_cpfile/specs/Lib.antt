pub mod Tables
pub mod Searching
pub mod Inside
pub mod Images
pub mod Facts
pub mod Private
