-- Scripts for an image: what a line says, and what a whole text says.
pub mod Bounds
pub mod Forms
pub mod Grammar
pub mod Progress
pub mod Reading
