pub mod Checks
pub mod Passes
pub mod Types
