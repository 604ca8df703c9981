pub mod Bounded
mod Examples
mod LoopExamples
pub mod Limits
pub mod LoopBounded
pub mod LoopTexts
pub mod LinesRead
pub mod Words
pub mod Cuts
pub mod Prints
pub mod Texts
pub mod Gathered
pub mod Firsts
