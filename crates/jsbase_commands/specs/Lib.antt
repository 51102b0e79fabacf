pub mod Arguments
pub mod Covers
pub mod Faults
pub mod Judge
pub mod Run
pub mod Served
