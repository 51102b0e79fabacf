pub mod Inside
pub mod Law
