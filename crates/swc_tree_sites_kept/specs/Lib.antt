pub mod Exported
pub mod Exports
pub mod Errors
pub mod Tame
pub mod Settled
pub mod Scripts
pub mod Lower
