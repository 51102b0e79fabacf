pub mod TypesIn
pub mod Untyped
mod WholePrograms
