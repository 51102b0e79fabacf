pub mod Causes
pub mod Covered
pub mod Shown
pub mod Sought
pub mod Lower
