pub mod Comments
pub mod Written
pub mod Faults
pub mod Judged
pub mod Looks
pub mod Lower
