mod Covered
mod Judged
mod More
mod Nearest
pub mod Rewritten
