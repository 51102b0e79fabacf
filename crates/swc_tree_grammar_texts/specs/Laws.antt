-- Laws of trees that are read by texts, all contexts emptied.
use Rattle.std.specs.Prelude.{◌≡◌}
use Rattle.swc_tree_node.specs.declared.node.Node.{Node}
use Rattle.swc_tree_scoping.specs.Readings.{by_texts}
use Rattle.swc_tree_grammar.specs.Writable.{is_writable}

-- whether a tree can be written down does not rest on contexts
abbrev pub TextsAreAsWritable : Type 0
TextsAreAsWritable = (t : Node) → is_writable (by_texts t) ≡ is_writable t
