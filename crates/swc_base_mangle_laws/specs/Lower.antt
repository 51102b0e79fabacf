-- Libraries below that crates above name through this one.
pub use Rattle.swc_ecma_transforms_base_laws.specs.Lower.swc_base_renaming_laws
pub use Rattle.swc_ecma_transforms_base_laws
