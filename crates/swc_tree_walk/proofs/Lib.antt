pub mod Found
pub mod Paths
pub mod Rewriting
pub mod Walked
