pub mod Walked
pub mod Below
pub mod Noted
pub mod Labelled
pub mod Owned
pub mod Twice
pub mod Found
pub mod Clauses
