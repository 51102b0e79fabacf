pub mod DeclKinds
pub mod Memory
pub mod Visits
