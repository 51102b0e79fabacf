pub mod Family
pub mod Fields
pub mod Least
pub mod Test
