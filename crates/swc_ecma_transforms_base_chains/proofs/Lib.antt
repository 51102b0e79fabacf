pub mod Chaining
pub mod Finishing
mod WritableTypes
