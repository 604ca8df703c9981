pub mod Building
pub mod Places
pub mod RowSteps
pub mod Rowing
