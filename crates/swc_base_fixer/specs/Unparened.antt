-- What is left of a program whose parentheses are taken off.
use Rattle.std.specs.Prelude.{◌≡◌, ◌⊎◌, IsTrue}
use Rattle.swc_tree_marks.specs.declared.error.PassError.{PassError}
use Rattle.swc_tree_marks.specs.declared.error.PassError.TheVariants as pass
use Rattle.swc_tree_node.specs.declared.node.Node.{Node}
use Rattle.swc_tree_grammar.specs.Blocks.{with_blocks}
use Rattle.swc_tree_grammar.specs.Stripped.{is_pairless, stripped}

-- the stripped tree with its blocks, which has no pair
pub record Unparened (before after : Node) : Type 0 where
  pub answer : after ≡ with_blocks (stripped before)
  pub pairless : IsTrue (is_pairless after)

abbrev pub IsRefusal : PassError → Type 0
IsRefusal e = (e ≡ pass.NotAssignable) ⊎ (e ≡ pass.NoMemory)
