-- Whether plain functions stand in blocks, catch bodies or case lists of sloppy code, functions as branches of an `if` there, or
-- functions that a label names.
use Rattle.std.specs.Prelude.{Bool, false, not, ◌&&◌, ◌||◌, Option, Some, None, List, slice_get}
use Rattle.std.specs.List.{list_all}
use Rattle.swc_tree_node.specs.declared.kind.Kind.TheVariants as kind
use Rattle.swc_tree_node.specs.declared.node.Node.{Node, out-Node}
use Rattle.swc_tree_node.specs.declared.node.Node.TheOpen.{Node-F}
use Rattle.swc_tree_node.specs.declared.fields.statements.fn_decl.TheConstants as fn_decl
use Rattle.swc_tree_node.specs.declared.fields.statements.labeled_stmt.TheConstants as labeled_stmt
use Rattle.swc_tree_scoping.specs.declared.places.Place.{Place}
use Rattle.swc_tree_scoping.specs.Folds.{fold_in_place}
use Rattle.swc_tree_scoping.specs.Places.{is_branch, is_plain_function}
use Rattle.swc_tree_renaming.specs.Apart.{function_in}

abbrev pub is_function : Option Node → Bool
is_function None = false
is_function (Some t) = function_in (out-Node t)

-- such a function, any that is a branch or a plain one that is nested, or a label that names one
abbrev pub is_loose_in : Place → Node-F Node → Bool
is_loose_in w (Node-F.Tree kind.FnDecl ts) = not w.strict && (is_branch w.standing || (w.nested && is_plain_function (slice_get ts fn_decl.FUNCTION)))
is_loose_in w (Node-F.Tree kind.LabeledStmt ts) = is_function (slice_get ts labeled_stmt.BODY)
is_loose_in w _ = false

abbrev pub settled_step : Place → Node → List Bool → Bool
settled_step w t each = not (is_loose_in w (out-Node t)) && list_all (λ b. b) each

-- none stands in the tree, where its root has the place
abbrev pub is_settled : Place → Node → Bool
is_settled = fold_in_place settled_step
