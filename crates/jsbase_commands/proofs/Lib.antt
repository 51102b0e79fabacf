pub mod Beginnings
pub mod Programs
mod Refused
mod OneOrTwo
mod CleanPrograms
mod Shown
