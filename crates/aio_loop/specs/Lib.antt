pub mod Blocking
pub mod Entering
pub mod Expiring
pub mod Homes
pub mod Logs
pub mod Turns
pub mod Walks
