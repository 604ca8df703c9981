pub mod PoolRule
pub mod Pools
