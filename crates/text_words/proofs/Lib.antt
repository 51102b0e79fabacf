pub mod Bytes
pub mod Begun
pub mod Regexes
pub mod Templates
pub mod Letters
