pub mod Seconds
pub mod Fields
