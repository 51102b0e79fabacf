pub mod Table
pub mod Changed
pub mod Fits
pub mod Sameness
pub mod Parts
pub mod Lower
