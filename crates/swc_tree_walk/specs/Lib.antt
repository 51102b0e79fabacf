pub mod Nodes
pub mod Rewritten
pub mod Sites
