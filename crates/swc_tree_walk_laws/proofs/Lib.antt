pub mod Lists
pub mod Filtered
