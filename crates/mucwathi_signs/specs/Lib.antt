pub mod Blanked
pub mod Cut
pub mod Signed
