-- Facts about the definitions, for laws of rounds and proofs of other crates.
pub mod RoundEvents
pub mod StepsLeft
