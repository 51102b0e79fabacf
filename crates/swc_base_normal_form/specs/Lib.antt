pub mod Forms
pub mod Exports
