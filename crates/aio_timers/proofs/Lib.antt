mod Listed
mod Moved
mod Ranked
mod RowCalls
mod Rows
mod SameArms
mod Standing
mod Treed
