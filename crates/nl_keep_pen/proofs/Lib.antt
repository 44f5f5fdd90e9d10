pub mod KnownFiles
pub mod Images
mod LookedAt
pub mod Runs
pub mod UnreadAnswers
pub mod PinlessTrees
pub mod FilledTrees
pub mod Changes
pub mod ChangeLists
mod RoundSteps
pub mod Listed
pub mod PinsRead
pub mod Brought
