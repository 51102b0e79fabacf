-- Which comments move where parentheses are taken off.
--
-- A comment stands at a position of the source: leading comments at the start of what they lead, trailing ones
-- at the end of what they trail. Those of a pair move to its content.
use Rattle.std.specs.Prelude.{List, [], ◌∷◌, ◌++◌, reverse}
use Rattle.std.specs.List.{flat_map}
use Rattle.swc_tree_node.specs.Lower.swc_tree_marks.specs.declared.span.Span.{Span as Range}
use Rattle.swc_tree_node.specs.declared.node.Node.{Node, fold-Node, map-Node}
use Rattle.swc_tree_node.specs.declared.node.Node.TheOpen.{Node-F}
use Rattle.swc_tree_grammar.specs.declared.pairs.Pair.{Pair}
use Rattle.swc_tree_comments.specs.declared.moves.Move.{Move}
use Rattle.swc_tree_comments.specs.declared.moves.Move.TheVariants as move
use Rattle.swc_tree_grammar.specs.Shapes.{Paren, Assign, children_in}
use Rattle.swc_tree_grammar.specs.Blocks.{span_step}

-- where a node stands, the pair that it is, if it is one, and the pairs in it from the outside in
pub record Found : Type 0 where
  pub span : Range
  pub own : List Pair
  pub inside : List Pair

abbrev pub all_of : Found → List Pair
all_of f = f.own ++ f.inside

-- of a target the outermost pair does not count, since it is no place of an expression
abbrev pub inside_of : Node-F Found → List Pair
inside_of (Assign span op left right) = left.inside ++ all_of right
inside_of t = flat_map all_of (children_in t)

abbrev pub own_of : Node-F Found → List Pair
own_of (Paren span expr) = record { content = expr.span; whole = span.span } ∷ []
own_of _ = []

abbrev pub found_step : Node-F Found → Found
found_step t = record { span = span_step (map-Node Found Range (λ f. f.span) t); own = own_of t; inside = inside_of t }

abbrev pub found : Node → Found
found = fold-Node Found found_step

-- the pairs at places of expressions, each before those in it, in the order of the source
abbrev pub pairs : Node → List Pair
pairs t = all_of (found t)

-- those below a node, without the pair that the node is
abbrev pub pairs_inside : Node → List Pair
pairs_inside t = (found t).inside

-- a pair's moves: from the pair's own ends to those of its content
abbrev pub moves_of : Pair → List Move
moves_of p = move.Leading p.whole.lo p.content.lo ∷ move.Trailing p.whole.hi p.content.hi ∷ []

-- the last pair first
abbrev pub moves : Node → List Move
moves t = flat_map moves_of (reverse (pairs t))
