pub mod Faults
pub mod Given
pub mod Refusals
