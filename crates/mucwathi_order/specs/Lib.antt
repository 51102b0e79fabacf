pub mod Styles
pub mod Faults
pub mod Lower
