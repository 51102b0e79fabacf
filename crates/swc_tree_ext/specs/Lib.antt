pub mod Directives
pub mod Exprs
pub mod Rows
