mod Behind
pub mod Callees
pub mod Logged
mod Pairs
mod TurnParts
