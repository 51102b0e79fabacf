pub mod Names
pub mod Pieces
pub mod Steps
