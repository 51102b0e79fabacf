pub mod Judged
pub mod Elements
pub mod Strings
pub mod Fields
pub mod Letters
