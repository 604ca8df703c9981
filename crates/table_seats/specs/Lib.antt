pub mod Seats
pub mod Dividing
pub mod Calls
