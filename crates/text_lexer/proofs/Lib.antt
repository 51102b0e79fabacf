pub mod Walks
pub mod Bytes
pub mod Starts
pub mod Ascii
