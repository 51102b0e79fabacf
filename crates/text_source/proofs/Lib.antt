mod Contexts
pub mod Formed
