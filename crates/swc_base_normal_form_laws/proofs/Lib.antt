pub mod Closed
pub mod Lists
pub mod Stripping
pub mod Writing
pub mod Kept
