pub mod Fixes
pub mod Lent
pub mod Promises
pub mod Refusals
pub mod Unparened
pub mod Visits
