pub mod Seen
pub mod Tests
pub mod ScopeRows
pub mod PreservedRows
pub mod NamedRows
