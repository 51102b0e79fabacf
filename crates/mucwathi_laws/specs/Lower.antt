-- Libraries below that crates above name through this one.
pub use Rattle.swc_base_mangle_laws.specs.Lower.swc_ecma_transforms_base_laws
pub use Rattle.text_kept_laws
