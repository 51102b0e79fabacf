-- Libraries below that crates above name through this one.
pub use Rattle.swc_base_fixer_sites
pub use Rattle.swc_tree_sites_written
