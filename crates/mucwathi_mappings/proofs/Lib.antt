pub mod Marking
pub mod Numbering
pub mod Once
pub mod Placing
pub mod Quoting
pub mod Standing
pub mod Steps
pub mod Telling
