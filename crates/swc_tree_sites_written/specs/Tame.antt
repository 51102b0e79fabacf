-- What writing a tree out relies on: names are bound by patterns and not by expressions, and a block that goes held
-- nothing that a block takes.
use Rattle.std.specs.Prelude.{ℕ, zero, suc, Bool, true, false, not, ◌&&◌, ◌||◌, List, [], ◌∷◌}
use Rattle.std.specs.List.{list_all}
use Rattle.swc_tree_scoping.specs.declared.places.Place.{Place}
use Rattle.swc_tree_scoping.specs.declared.places.Standing.TheVariants as standing
use Rattle.swc_tree_scoping.specs.declared.places.Scope.TheVariants as scope
use Rattle.swc_tree_scoping.specs.Scopes.{takes}
use Rattle.swc_tree_sites.specs.Sites.{sites_of}
use Rattle.swc_tree_node.specs.declared.slot.Role.{Role}
use Rattle.swc_tree_node.specs.declared.slot.Role.TheVariants as role
use Rattle.swc_tree_node.specs.declared.node.Node.{Node, out-Node, roll-Node, fold-Node, map-Node}
use Rattle.swc_tree_node.specs.declared.node.Node.TheOpen.{Node-F}
use Rattle.swc_tree_scoping.specs.Places.{field_role, is_expression_in}
use Rattle.swc_tree_grammar.specs.Shapes.{Block, If, items_of}
use Rattle.swc_tree_grammar.specs.Blocks.{takes_else}

-- the place of a statement in a block of strict code
abbrev pub in_block : Place
in_block = record { standing = standing.Plain; strict = true; nested = true }

-- the statement leaves nothing that a block takes
abbrev pub is_loose : Node → Bool
is_loose s = list_all (λ b. not (takes b.0 scope.Block)) (sites_of in_block s).pending

-- ... where it is all that a block holds, and the block goes
abbrev pub opens_loose_in : List Node → Bool
opens_loose_in (s ∷ []) = not (takes_else s) || is_loose s
opens_loose_in _ = true

abbrev pub opens_loose : Node-F Node → Bool
opens_loose (Block span stmts) = opens_loose_in (items_of stmts)
opens_loose _ = true

-- whether names are bound in a field, where `bound` says so of the whole
abbrev pub binds_in : Role → Bool → Bool
binds_in role.Inherited bound = bound
binds_in role.Parameter bound = true
binds_in role.Catch bound = true
binds_in role.Declared bound = true
binds_in role.Lexical bound = true
binds_in _ bound = false

pub record Tame : Type 0 where
  pub whole : Node
  pub tame : Bool → Bool

-- a part of a pattern, or anything else: no expression is bound
abbrev pub part_tame : Bool → Tame → Bool
part_tame bound e = not (bound && is_expression_in (out-Node e.whole)) && e.tame bound

abbrev pub items_tame : Bool → List Tame → Bool
items_tame bound [] = true
items_tame bound (e ∷ es) = part_tame bound e && items_tame bound es

abbrev pub fields_tame : (ℕ → Role) → Bool → List Tame → Bool
fields_tame roles bound [] = true
fields_tame roles bound (e ∷ es) = part_tame (binds_in (roles zero) bound) e && fields_tame (λ i. roles (suc i)) bound es

abbrev pub branch_tame : Node-F Tame → Bool
branch_tame (If span test cons alt) = opens_loose (out-Node cons.whole)
branch_tame _ = true

abbrev pub tame_in : Node-F Tame → Bool → Bool
tame_in (Node-F.List es) bound = items_tame bound es
tame_in (Node-F.Tree k es) bound = branch_tame (Node-F.Tree k es) && fields_tame (field_role k) bound es
tame_in _ bound = true

abbrev pub tame_step : Node-F Tame → Tame
tame_step y = record { whole = roll-Node (map-Node Tame Node (λ e. e.whole) y); tame = tame_in y }

abbrev pub is_tame : Node → Bool → Bool
is_tame t = (fold-Node Tame tame_step t).tame
