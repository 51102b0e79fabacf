pub mod Marks
pub mod Whole
pub mod Clean
