pub mod Sites
pub mod Smaller
pub mod Laws
