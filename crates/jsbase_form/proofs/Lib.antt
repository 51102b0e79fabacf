pub mod Paths
pub mod Successes
pub mod Folds
pub mod Seen
pub mod Members
pub mod Numbers
pub mod Induction
pub mod Puts
pub mod Back
pub mod RoundTrip
mod Rows
