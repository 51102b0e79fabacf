pub mod Asked
pub mod Misused
pub mod Offered
pub mod Rules
