-- Facts about the definitions, for proofs of other crates.
pub mod Events
pub mod Leading
pub mod MountEvents
pub mod ShownNumbers
