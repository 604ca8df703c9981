pub mod Sits
pub mod Tables
