pub mod Names
pub mod Kept
pub mod Last
pub mod Going
pub mod Order
pub mod Beside
pub mod ReadAgain
