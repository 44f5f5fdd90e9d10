-- What other crates may cite of trees without pins.
pub mod PinlessTrees
