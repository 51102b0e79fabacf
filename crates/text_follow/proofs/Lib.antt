pub mod Frames
pub mod Raw
pub mod Readers
pub mod Steps
