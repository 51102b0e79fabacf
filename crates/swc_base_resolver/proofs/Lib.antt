pub mod Extended
pub mod Opens
