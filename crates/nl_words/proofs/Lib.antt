pub mod Leaving
pub mod Evening
