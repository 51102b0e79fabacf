pub mod Asked
pub mod Barriers
