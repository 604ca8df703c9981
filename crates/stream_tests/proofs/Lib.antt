pub mod OnePass
pub mod Shortness
pub mod Sole
