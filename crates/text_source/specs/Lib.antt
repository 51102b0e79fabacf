pub mod Texts
pub mod Amiss
pub mod Located
pub mod Lower
