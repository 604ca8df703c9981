pub mod Actions
pub mod Entering
pub mod Running
pub mod Machines
pub mod Ending
