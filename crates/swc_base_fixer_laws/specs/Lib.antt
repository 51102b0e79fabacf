pub mod Alike
pub mod Sets
pub mod Laws
pub mod Once
pub mod Named
pub mod Targets
pub mod Lower
