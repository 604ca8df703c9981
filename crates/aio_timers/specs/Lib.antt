pub mod Keys
pub mod Kept
pub mod Moving
pub mod Nodes
pub mod Order
pub mod Restamping
pub mod StandsFor
