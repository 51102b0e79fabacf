mod OwnIds
mod Found
pub mod Texts
