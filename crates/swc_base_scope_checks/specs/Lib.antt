pub mod Asked
pub mod Barriers
pub mod Caught
pub mod Kept
