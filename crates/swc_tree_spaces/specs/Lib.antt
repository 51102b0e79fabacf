pub mod Spaces
pub mod NoTypes
