pub mod ByLetter
pub mod Flat
