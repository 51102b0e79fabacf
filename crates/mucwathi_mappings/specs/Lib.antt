pub mod Mappings
pub mod Maps
pub mod Names
pub mod Nodes
pub mod Numbers
pub mod Positions
pub mod Quoted
