pub mod Table
pub mod Described
pub mod Inside
pub mod TakenOut
pub mod OneProof
pub mod EntryBytes
pub mod Images
pub mod Facts
