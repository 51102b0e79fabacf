pub mod Eval
pub mod Units
pub mod Walk
