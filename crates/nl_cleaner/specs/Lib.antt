pub mod Job
pub mod Plan
pub mod Rounds
pub mod Laws
pub mod Private
pub mod Facts
