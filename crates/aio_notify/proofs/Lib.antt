mod Looks
mod Tested
pub mod Ends
pub mod Wholes
pub mod Vain
