pub mod AnyDevices
pub mod FileState
