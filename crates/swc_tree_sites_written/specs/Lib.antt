pub mod Laws
pub mod Tame
pub mod Lower
