pub mod Accounts
pub mod Answers
pub mod Ended
pub mod Placing
