pub mod Names
pub mod Places
pub mod Identifiers
pub mod Classes
pub mod Exports
pub mod Substituted
pub mod Walk
pub mod Room
