mod Numbers
pub mod Handles
pub mod Rows
