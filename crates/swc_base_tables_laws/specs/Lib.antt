pub mod Laws
pub mod Injection
