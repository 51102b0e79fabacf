pub mod Run
pub mod Served
pub mod Laws
