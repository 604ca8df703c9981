pub mod Accounts
pub mod ByEntry
pub mod Ended
pub mod Joined
pub mod Opening
pub mod Orders
