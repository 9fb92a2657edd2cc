pub mod Marks
pub mod Chains
pub mod Nodes
pub mod Leads
