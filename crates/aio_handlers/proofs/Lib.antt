mod Answered
mod Placed
mod Removal
mod Sought
mod Standing
mod Told
mod Watched
