-- Libraries below that crates above name through this one.
pub use Rattle.swc_ecma_transforms_base_chains.specs.Lower.swc_ecma_transforms_base_laws
