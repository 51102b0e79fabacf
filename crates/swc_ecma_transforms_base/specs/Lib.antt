pub mod Mangled
pub mod Lower
