pub mod Drawn
pub mod Names
pub mod Sites
pub mod ScopeRows
pub mod DeclarationRows
pub mod WholeRows
