pub mod Moves
pub mod Fields
pub mod Gathered
