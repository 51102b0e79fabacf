pub mod Equivalence
pub mod Ids
pub mod Decided
pub mod Alike
