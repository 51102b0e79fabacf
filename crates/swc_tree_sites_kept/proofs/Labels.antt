-- No label names a function in a settled tree.
use Rattle.std.proofs.Common.{◌≡◌, ℕ, zero, suc, Bool, true, false, not, ◌&&◌, Option, Some, None, List, [], ◌∷◌, map, refl, ap, ◌∙◌}
use Rattle.std.specs.List.{list_all, slice_get}
use Rattle.std.specs.Prelude.{option_map}
use Rattle.std.proofs.lemmas.Option.{slice_get-map}
use Rattle.swc_tree_node.specs.declared.kind.Kind.{Kind}
use Rattle.swc_tree_node.specs.declared.kind.Kind.TheVariants as kind
use Rattle.swc_tree_node.specs.declared.fields.statements.labeled_stmt.TheConstants as labeled_stmt
use Rattle.swc_tree_node.specs.declared.node.Node.{Node, out-Node, map-Node, fold-Node, fold_out-Node}
use Rattle.swc_tree_node.specs.declared.node.Node.TheOpen.{Node-F}
use Rattle.swc_tree_node.proofs.Fit.{both as both_are}
use Rattle.swc_tree_scoping.specs.declared.places.Place.{Place}
use Rattle.swc_tree_scoping.specs.Places.{children_in, place_in}
use Rattle.swc_tree_scoping.specs.Folds.{each_in}
use Rattle.swc_tree_scoping.proofs.Under.{by_children}
use Rattle.swc_tree_renaming.specs.Apart.{Labelled, function_in, is_named, labelled_step, labels_no_function, names_function}
use Rattle.swc_tree_grammar_laws.proofs.Levelled.{also}
use Rattle.swc_tree_sites_kept.specs.Settled.{is_function, is_loose_in, is_settled}
use Rattle.swc_tree_sites_kept.proofs.Bridge.{settled_parts}

abbrev labelled : Node → Labelled
labelled = fold-Node Labelled labelled_step

-- a label that names a function
abbrev pub label_in : Node-F Node → Bool
label_in (Node-F.Tree kind.LabeledStmt ts) = is_function (slice_get ts labeled_stmt.BODY)
label_in _ = false

function_kind : (k : Kind) (ts : List Node) → function_in (Node-F.Tree k (map labelled ts)) ≡ function_in (Node-F.Tree k ts)
function_kind kind.FnDecl ts = refl
function_kind _ ts = refl

function_layer : (y : Node-F Node) → function_in (map-Node Node Labelled labelled y) ≡ function_in y
function_layer (Node-F.Tree k ts) = function_kind k ts
function_layer Node-F.Absent = refl
function_layer _ = refl

function_is : (o : Option Node) → is_named (option_map labelled o) ≡ is_function o
function_is None = refl
function_is (Some t) = ap (λ e. e.is_function) (fold_out-Node Labelled labelled_step t) ∙ function_layer (out-Node t)

names_is : (k : Kind) (ts : List Node) → names_function (Node-F.Tree k (map labelled ts)) ≡ label_in (Node-F.Tree k ts)
names_is kind.LabeledStmt ts = ap is_named (slice_get-map labelled ts labeled_stmt.BODY) ∙ function_is (slice_get ts labeled_stmt.BODY)
names_is _ ts = refl

each_is : (ts : List Node) → list_all (λ e. e.names_none) (map labelled ts) ≡ list_all labels_no_function ts
each_is [] = refl
each_is (t ∷ ts) = ap (λ b. labels_no_function t && b) (each_is ts)

layer_is : (y : Node-F Node) → (labelled_step (map-Node Node Labelled labelled y)).names_none ≡ (not (label_in y) && list_all labels_no_function (children_in y))
layer_is (Node-F.Tree k ts) = ap (λ b. not b && list_all (λ e. e.names_none) (map labelled ts)) (names_is k ts) ∙ ap (λ b. not (label_in (Node-F.Tree k ts)) && b) (each_is ts)
layer_is (Node-F.List ts) = each_is ts
layer_is Node-F.Absent = refl
layer_is _ = refl

-- by what stands directly below
pub labels_out : (t : Node) (y : Node-F Node) → out-Node t ≡ y → labels_no_function t ≡ (not (label_in y) && list_all labels_no_function (children_in y))
labels_out t y o = ap (λ e. e.names_none) (fold_out-Node Labelled labelled_step t ∙ ap (λ y. labelled_step (map-Node Node Labelled labelled y)) o) ∙ layer_is y

kind_names_none : (w : Place) (k : Kind) (ts : List Node) → is_loose_in w (Node-F.Tree k ts) ≡ false → label_in (Node-F.Tree k ts) ≡ false
kind_names_none w kind.LabeledStmt ts h = h
kind_names_none w _ ts h = refl

names_none : (w : Place) (y : Node-F Node) → is_loose_in w y ≡ false → label_in y ≡ false
names_none w (Node-F.Tree k ts) h = kind_names_none w k ts h
names_none w Node-F.Absent h = refl
names_none w _ h = refl

abbrev NamesNone : Node → Type 0
NamesNone t = (w : Place) → is_settled w t ≡ true → labels_no_function t ≡ true

each_names_none : (ts : List Node) (ps : ℕ → Place) → list_all (λ b. b) (each_in is_settled ps ts) ≡ true → ((i : ℕ) (c : Node) → slice_get ts i ≡ Some c → NamesNone c) → list_all labels_no_function ts ≡ true
each_names_none [] ps h below = refl
each_names_none (t ∷ ts) ps h below =
    let p = both_are (is_settled (ps zero) t) (list_all (λ b. b) (each_in is_settled (λ i. ps (suc i)) ts)) h in
    also (below zero t refl (ps zero) p.0) (each_names_none ts (λ i. ps (suc i)) p.1 (λ i. below (suc i)))

pub settled_names_none : (t : Node) → NamesNone t
settled_names_none = by_children NamesNone (λ t below w h. (
    let p = settled_parts w t (out-Node t) refl h in
    labels_out t (out-Node t) refl ∙ also (ap not (names_none w (out-Node t) p.0)) (each_names_none (children_in (out-Node t)) (place_in w (out-Node t)) p.1 below)))
