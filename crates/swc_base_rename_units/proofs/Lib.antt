pub mod Readers
pub mod Outermost
pub mod Lifted
pub mod Fitting
pub mod Steps
pub mod Walking
