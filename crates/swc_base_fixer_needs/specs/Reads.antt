-- Which expressions the reader's table names at a path from a node down, if the node has a label.
use Rattle.std.specs.Prelude.{◌≡◌, [], ◌∷◌, Bool, true, false, ◌&&◌, ◌||◌, Some}
use Rattle.swc_tree_node.specs.declared.node.Node.{Node, out-Node}
use Rattle.swc_tree_scoping.specs.Places.{Path}
use Rattle.swc_tree_grammar.specs.Shapes.{items_of}
use Rattle.swc_tree_grammar.specs.Needed.{content_at}
use Rattle.swc_tree_grammar.specs.Readers.{names, names_item_in, has_later, is_odd_item}
use Rattle.swc_base_fixer_needs.specs.Reasons.{Label}
use Rattle.swc_base_fixer_needs.specs.Reasons.Label.{Names, OfStatement, OfItems}

abbrev pub read : Label → Node → Path → Node → Bool
read (Names test) t [] e = test e
read OfStatement t p e = names_item_in (out-Node t) p e
read OfItems t (i ∷ []) e = has_later i (items_of t) && is_odd_item e
read _ t p e = false

-- a pair stands at the path, and its content is named
pub record Reads (l : Label) (t : Node) (p : Path) : Type 0 where
  pub content : Node
  pub stands : content_at t p ≡ Some content
  pub named : (read l t p content || names t p content) ≡ true
