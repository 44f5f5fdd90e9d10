pub mod Slots
pub mod CheckpointReading
pub mod ImageReading
