-- The lock of coroutines.
pub mod History
pub mod Notes
pub mod Seats
