pub mod Pairs
pub mod Answers
pub mod Clean
