pub mod Chosen
pub mod Closure
pub mod Sets
pub mod Table
