pub mod Calls
pub mod Images
pub mod Journals
pub mod Notes
pub mod Phases
pub mod Soundness
