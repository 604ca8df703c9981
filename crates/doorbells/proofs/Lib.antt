pub mod Rang
pub mod Answered
pub mod Joined
