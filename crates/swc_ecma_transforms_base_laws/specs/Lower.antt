-- Libraries below that crates above name through this one.
pub use Rattle.swc_base_renaming_laws
