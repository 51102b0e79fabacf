pub mod Endings
pub mod Follows
pub mod Stands
pub mod Readers
