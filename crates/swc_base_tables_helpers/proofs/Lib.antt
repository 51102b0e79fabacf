pub mod ClosedSets
pub mod NameList
pub mod Unions
