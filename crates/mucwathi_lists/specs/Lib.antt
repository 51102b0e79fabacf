pub mod Changed
pub mod Cursors
pub mod Listed
