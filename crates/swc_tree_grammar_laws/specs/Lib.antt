pub mod Levelled
pub mod Headed
pub mod Started
pub mod Laws
pub mod Every
pub mod Plain
