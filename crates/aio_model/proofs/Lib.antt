mod Examples
mod LoopExamples
mod LoopLineExamples
pub mod Along
pub mod InOrder
pub mod Names
pub mod PutAt
pub mod FlagsWords
pub mod Indices
pub mod Searches
pub mod AnnouncedOnce
pub mod LoopKept
pub mod LoopFollows
pub mod Lifeless
pub mod LotLives
pub mod OnceFollows
pub mod CommitFollows
pub mod Rounds
pub mod Frames
pub mod Awaiting
pub mod Entering
pub mod HandlerLists
mod HandlerRows
mod TimerRows
pub mod Granted
pub mod Orderly
pub mod Holding
pub mod Settling
mod RwRows
pub mod CoroutineHistories
