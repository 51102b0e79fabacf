pub mod Once
pub mod Each
