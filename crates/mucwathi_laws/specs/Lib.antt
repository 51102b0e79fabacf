pub mod Promises
pub mod Lower
