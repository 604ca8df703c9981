-- Event handlers.
pub mod Calls
pub mod States
