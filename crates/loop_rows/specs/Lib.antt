pub mod LoopStates
pub mod Opening
pub mod Posts
pub mod Rows
pub mod Stepping
