pub mod Laws
pub mod Lower
