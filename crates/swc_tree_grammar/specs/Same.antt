-- When two programs are the same but for the names that the first one declares.
use Rattle.std.specs.Prelude.{List, [], ◌∷◌, ◌++◌, Bool, true, false, ◌&&◌, ◌||◌, ◌==◌, IsTrue, nat_eq, if◌then◌else◌}
use Rattle.std.specs.List.{flat_map, list_any}
use Rattle.std.specs.Cmp.Lexicographic.{pointwise}
use Rattle.swc_tree_node.specs.Lower.swc_tree_marks.specs.declared.ident.Ident.{Ident}
use Rattle.swc_tree_node.specs.declared.node.Node.{Node, out-Node}
use Rattle.swc_tree_node.specs.declared.node.Node.TheOpen.{Node-F}
use Rattle.swc_tree_node.specs.Table.{kind_number, word_number}
use Rattle.swc_tree_scoping.specs.declared.places.Standing.{Standing}
use Rattle.swc_tree_scoping.specs.declared.places.Place.{Place}
use Rattle.swc_tree_scoping.specs.Places.{program_place}
use Rattle.swc_tree_scoping.specs.Scopes.{is_binding, is_name}
use Rattle.swc_tree_scoping.specs.Folds.{fold_in_place}
use Rattle.swc_tree_grammar.specs.Normal.{normal_form, same_id}

abbrev pub bound_in : Standing → Node-F Node → List Ident
bound_in standing (Node-F.Identifier k i) = if is_binding standing then i ∷ [] else []
bound_in standing _ = []

abbrev pub declared_step : Place → Node → List (List Ident) → List Ident
declared_step place t below = bound_in place.standing (out-Node t) ++ flat_map (λ names. names) below

-- the names that a program declares: those that stand where names are bound
abbrev pub declared_names : Node → List Ident
declared_names = fold_in_place declared_step program_place

abbrev pub same_flag : Bool → Bool → Bool
same_flag true b = b
same_flag false true = false
same_flag false false = true

abbrev pub each_same : List (Node → Bool) → List Node → Bool
each_same [] [] = true
each_same (f ∷ fs) (u ∷ us) = f u && each_same fs us
each_same _ _ = false

-- two nodes, of which the tests say whether the children of the first are the same as those of the second
abbrev pub same_in : List Ident → Standing → List (Node → Bool) → Node-F Node → Node-F Node → Bool
same_in declared standing below Node-F.Absent Node-F.Absent = true
same_in declared standing below (Node-F.Flag b) (Node-F.Flag c) = same_flag b c
same_in declared standing below (Node-F.Word v) (Node-F.Word w) = word_number v == word_number w
same_in declared standing below (Node-F.Text x) (Node-F.Text y) = pointwise nat_eq x y
same_in declared standing below (Node-F.Span s) (Node-F.Span r) = true
same_in declared standing below (Node-F.Identifier k i) (Node-F.Identifier l j) =
    (kind_number k == kind_number l) && (pointwise nat_eq i.sym j.sym || (is_name standing && list_any (same_id i) declared))
same_in declared standing below (Node-F.List ts) (Node-F.List us) = each_same below us
same_in declared standing below (Node-F.Tree k ts) (Node-F.Tree l us) = (kind_number k == kind_number l) && each_same below us
same_in declared standing below _ _ = false

abbrev pub same_step : List Ident → Place → Node → List (Node → Bool) → Node → Bool
same_step declared place t below u = same_in declared place.standing below (out-Node t) (out-Node u)

-- the two trees are equal but for spans, contexts, and the texts of declared names where they are bound or referred to
abbrev pub same_tree : List Ident → Node → Node → Bool
same_tree declared = fold_in_place (same_step declared) program_place

abbrev pub is_same : Node → Node → Bool
is_same t u = same_tree (declared_names t) (normal_form t) (normal_form u)

-- the two programs have one normal form but for the names that the first one declares
abbrev pub SameButForBoundNames : Node → Node → Type 0
SameButForBoundNames t u = IsTrue (is_same t u)
