pub mod Ancestors
pub mod Fresh
pub mod Search
pub mod Tables
