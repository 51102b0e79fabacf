-- A tree without its pairs of parentheses.
use Rattle.std.specs.Prelude.{◌≡◌, [], ◌∷◌}
use Rattle.swc_tree_node.specs.declared.kind.Kind.TheVariants as kind
use Rattle.swc_tree_node.specs.declared.node.Node.{Node, Tree, roll-Node, fold-Node}
use Rattle.swc_tree_node.specs.declared.node.Node.TheOpen.{Node-F}
use Rattle.swc_tree_grammar.specs.Shapes.{Assign, Paren}
use Rattle.swc_tree_grammar.specs.Stripped.{stripped, target}

abbrev pub unpair_step : Node-F Node → Node
unpair_step (Paren span expr) = expr
unpair_step (Assign span op left right) = Tree kind.AssignExpr (span ∷ op ∷ target left ∷ right ∷ [])
unpair_step t = roll-Node t

abbrev pub unpaired : Node → Node
unpaired = fold-Node Node unpair_step

-- Stripping takes nothing off but pairs: no sequence stands in another or has an item that does nothing, and no member of a class is empty.
abbrev pub LosesPairsAlone : Node → Type 0
LosesPairsAlone t = stripped t ≡ unpaired t
