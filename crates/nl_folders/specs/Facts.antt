-- What other crates may cite of calls in order and of the bytes of paths.
pub mod CallLists
pub mod Spellings
