pub mod Own
pub mod Strays
pub mod Mangled
pub mod Lower
