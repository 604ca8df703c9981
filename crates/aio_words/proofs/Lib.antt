pub mod ContentLemmas
pub mod FaultLemmas
mod SourceReads
