pub mod Responding
pub mod Rings
pub mod Answering
