-- Libraries below that crates above name through this one.
pub use Rattle.swc_base_rename_program
pub use Rattle.swc_tree_sites_kept
