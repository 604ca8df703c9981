pub mod Answers
pub mod Kept
pub mod Placing
pub mod Slots
pub mod StandsFor
