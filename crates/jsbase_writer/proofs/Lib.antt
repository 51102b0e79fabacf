pub mod Line
pub mod Ordered
pub mod Places
pub mod Rests
pub mod Back
pub mod Tokens
pub mod Verdicts
pub mod Gaps
