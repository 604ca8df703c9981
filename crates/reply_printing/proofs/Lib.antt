mod FoundReplies
mod LinkedPlaces
mod NextLines
mod StreamCounts
pub mod ReadScripts
