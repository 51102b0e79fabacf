pub mod Changing
pub mod Listing
pub mod Steps
