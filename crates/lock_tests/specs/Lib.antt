pub mod Hands
pub mod Crews
pub mod Tallies
