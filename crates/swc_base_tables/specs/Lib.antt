pub mod Helpers
pub mod Visits
pub mod Kept
pub mod Types
