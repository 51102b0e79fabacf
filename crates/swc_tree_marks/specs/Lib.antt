pub mod Contexts
pub mod Errors
pub mod Globals
pub mod Listed
pub mod Lower
