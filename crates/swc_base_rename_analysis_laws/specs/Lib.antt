pub mod Placed
pub mod Means
pub mod Laws
