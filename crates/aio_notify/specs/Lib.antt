pub mod Notifying
pub mod Watching
pub mod Commits
pub mod Setting
pub mod Settling
pub mod Settled
pub mod Waiting
