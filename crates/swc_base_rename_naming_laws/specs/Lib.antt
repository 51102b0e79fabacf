pub mod Rules
pub mod Laws
pub mod Stretches
