-- One loop: its history, what a history tells, and the calls that stand in it.
pub mod FlagsWord
pub mod History
pub mod Flags
pub mod Lists
pub mod Legal
pub mod Laws
pub mod Log
pub mod State
pub mod Steps
pub mod Inside
pub mod Seats
pub mod Frame
pub mod Calls
pub mod InFlight
