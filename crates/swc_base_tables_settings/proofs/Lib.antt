pub mod Members
pub mod Parts
pub mod Search
pub mod Versions
