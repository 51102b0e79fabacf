pub mod Visits
pub mod Hygiene
pub mod Renamers
