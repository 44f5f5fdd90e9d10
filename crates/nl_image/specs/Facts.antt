-- Facts about the definitions, for proofs of other crates.
pub mod ConditionOrder
pub mod LaterConditions
pub mod OnePayload
pub mod ReadParts
pub mod SpelledImages
pub mod StoreNumbers
