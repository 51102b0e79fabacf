pub mod Told
pub mod Remarked
