pub mod Comments
pub mod Lines
