pub mod Chains
mod Calls
mod Circles
pub mod Contained
mod Paths
pub mod Steps
pub mod Walks
