pub mod ImageState
pub mod Journal
pub mod PieceCalls
pub mod Pieces
pub mod Presents
pub mod Progress
pub mod Soundness
