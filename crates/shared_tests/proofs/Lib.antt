pub mod Seated
pub mod Sitting
