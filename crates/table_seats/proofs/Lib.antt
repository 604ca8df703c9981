pub mod Entries
pub mod Seats
pub mod Splitting
pub mod Joining
pub mod Standing
pub mod Opening
