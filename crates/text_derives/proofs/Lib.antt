pub mod Least
pub mod Begin
pub mod Fields
pub mod Judged
pub mod Rows
pub mod Law
