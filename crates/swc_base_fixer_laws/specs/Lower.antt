-- Libraries below that crates above name through this one.
pub use Rattle.swc_tree_grammar_laws
