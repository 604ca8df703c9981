-- What scripts print, and what the commands of a loop script do.
pub mod PrintedText
pub mod LoopActs
pub mod LoopLines
pub mod LoopReplies
pub mod LoopText
