pub mod Names
pub mod Inserted
pub mod Lookup
pub mod Reached
pub mod Walks
pub mod Marked
