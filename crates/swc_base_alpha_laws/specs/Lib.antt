pub mod Alpha
pub mod Laws
