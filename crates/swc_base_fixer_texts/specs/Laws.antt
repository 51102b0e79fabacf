-- The fixer does not look into contexts.
use Rattle.std.specs.Prelude.{◌≡◌}
use Rattle.swc_tree_node.specs.declared.node.Node.{Node}
use Rattle.swc_tree_scoping.specs.Readings.{by_texts}
use Rattle.swc_tree_grammar.specs.Due.{Places}
use Rattle.swc_tree_grammar.specs.Fixed.{fixed}

-- to fix a tree without its contexts is to fix it and take its contexts off
abbrev pub FixingNeedsNoContexts : Type 0
FixingNeedsNoContexts = (place : Places) (t : Node) → fixed place (by_texts t) ≡ by_texts (fixed place t)
