pub mod Fixed
pub mod Open
pub mod Programs
pub mod Promised
