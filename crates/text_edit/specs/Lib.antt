pub mod Alike
pub mod Edits
pub mod Moves
