-- Coroutines that are scheduled into one home.
pub mod History
pub mod Laws
