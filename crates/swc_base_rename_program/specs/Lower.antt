-- Libraries below that crates above name through this one.
pub use Rattle.swc_base_rename_naming
pub use Rattle.swc_base_rename_naming_laws
