pub mod Carrying
pub mod Places
pub mod Scripts
pub mod Starting
pub mod Stopping
pub mod Untouched
