pub mod Brought
pub mod Members
pub mod Bodies
pub mod Injected
pub mod Walk
pub mod Alone
