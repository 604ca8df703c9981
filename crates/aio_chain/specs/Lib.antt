pub mod Chains
pub mod LinkList
pub mod Nodes
