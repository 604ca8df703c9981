pub mod Counting
pub mod Devices
pub mod Turning
