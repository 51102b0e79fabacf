pub mod Spelled
pub mod Words
pub mod Pinned
pub mod Checked
pub mod Asked
pub mod Bare
