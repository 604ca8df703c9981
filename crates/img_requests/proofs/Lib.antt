pub mod CallCounts
pub mod Counting
pub mod Joining
pub mod PutAt
pub mod Served
