pub mod Forms
pub mod Past
pub mod Fitting
pub mod Kept
pub mod Places
