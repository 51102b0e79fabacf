pub mod Chosen
pub mod Commented
pub mod Places
pub mod Sites
pub mod Steps
pub mod Why
