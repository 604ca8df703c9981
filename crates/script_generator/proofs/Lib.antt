pub mod Bounded
pub mod Generating
pub mod Texts
