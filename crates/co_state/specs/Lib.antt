pub mod Wants
pub mod Coroutines
pub mod Entering
pub mod Kept
pub mod Lookup
