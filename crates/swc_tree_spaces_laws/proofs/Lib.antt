mod Standings
pub mod Agree
mod Told
