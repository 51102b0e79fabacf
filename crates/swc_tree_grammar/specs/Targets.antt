-- Which parenthesised assignment targets can stand bare (ECMA-262, 13.15.1 and 8.6.4, AssignmentTargetType).
use Rattle.std.specs.Prelude.{[], ◌∷◌, Bool, true, false, ◌&&◌, ◌||◌, not}
use Rattle.std.specs.List.{list_all}
use Rattle.swc_tree_node.specs.declared.kind.Kind.{Kind}
use Rattle.swc_tree_node.specs.declared.kind.Kind.TheVariants as kind
use Rattle.swc_tree_node.specs.declared.node.Node.{Node, fold-Node}
use Rattle.swc_tree_node.specs.declared.node.Node.TheOpen.{Node-F}
use Rattle.swc_tree_grammar.specs.Shapes.{Paren, Seq, Assign, children_in}

-- identifiers, members and properties of `super`
abbrev pub is_simple : Kind → Bool
is_simple kind.Ident = true
is_simple kind.MemberExpr = true
is_simple kind.SuperPropExpr = true
is_simple _ = false

-- what is seen of a node
pub record Seen : Type 0 where
  -- it is a pair of parentheses
  pub is_pair : Bool
  -- without pairs and sequences of one item it is simple; a list is what its only item is
  pub is_target : Bool
  -- each parenthesised target in it can stand bare
  pub all_bare : Bool

abbrev pub can_stand : Seen → Bool
can_stand left = not left.is_pair || left.is_target

abbrev pub pair_in : Node-F Seen → Bool
pair_in (Node-F.Tree kind.ParenExpr es) = true
pair_in _ = false

abbrev pub target_in : Node-F Seen → Bool
target_in (Paren span expr) = expr.is_target
target_in (Seq span exprs) = exprs.is_target
target_in (Node-F.Tree k es) = is_simple k
target_in (Node-F.Identifier k i) = is_simple k
target_in (Node-F.List (e ∷ [])) = e.is_target
target_in _ = false

abbrev pub bare_in : Node-F Seen → Bool
bare_in (Assign span op left right) = can_stand left
bare_in _ = true

abbrev pub seen_step : Node-F Seen → Seen
seen_step x = record { is_pair = pair_in x; is_target = target_in x; all_bare = bare_in x && list_all (λ e. e.all_bare) (children_in x) }

abbrev pub seen : Node → Seen
seen = fold-Node Seen seen_step

-- without pairs and sequences of one item the node is an identifier, a member or a property of `super`
abbrev pub is_target : Node → Bool
is_target t = (seen t).is_target

-- each parenthesised assignment target at or below the node can stand bare
abbrev pub all_bare : Node → Bool
all_bare t = (seen t).all_bare
