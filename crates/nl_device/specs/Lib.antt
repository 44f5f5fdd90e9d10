pub mod Pages
pub mod Failures
pub mod Memory
pub mod Turns
pub mod Facts
