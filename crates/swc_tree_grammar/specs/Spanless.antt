-- When two trees are the same but for where their nodes stand in the source.
use Rattle.std.specs.Prelude.{◌≡◌}
use Rattle.swc_tree_node.specs.declared.node.Node.{Node, Span, Identifier, roll-Node, fold-Node}
use Rattle.swc_tree_node.specs.declared.node.Node.TheOpen.{Node-F}
use Rattle.swc_tree_grammar.specs.Blocks.{no_span}

abbrev pub spanless_step : Node-F Node → Node
spanless_step (Node-F.Span s) = Span no_span
spanless_step (Node-F.Identifier k i) = Identifier k (record i { span = no_span })
spanless_step t = roll-Node t

-- the tree with one span for all
abbrev pub spanless : Node → Node
spanless = fold-Node Node spanless_step

abbrev pub SameButForSpans : Node → Node → Type 0
SameButForSpans t u = spanless t ≡ spanless u
