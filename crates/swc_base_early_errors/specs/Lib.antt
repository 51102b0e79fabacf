pub mod Claims
pub mod Errors
pub mod Asked
pub mod Labels
pub mod Lower
