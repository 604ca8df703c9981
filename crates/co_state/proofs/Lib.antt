pub mod Depth
pub mod Held
pub mod Standing
pub mod Trees
