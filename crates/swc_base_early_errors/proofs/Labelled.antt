-- Labels of a tree, by its form.
use Rattle.std.proofs.Common.{◌≡◌, ℕ, zero, suc, not, ◌&&◌, List, [], ◌∷◌, map, refl, ap, ◌∙◌, rules}
use Rattle.std.specs.List.{list_all, slice_get}
use Rattle.swc_tree_node.specs.declared.kind.Kind.{Kind}
use Rattle.swc_tree_node.specs.declared.kind.Kind.TheVariants as kind
use Rattle.swc_tree_node.specs.declared.fields.statements.labeled_stmt.TheConstants as labeled_stmt
use Rattle.swc_tree_node.specs.declared.node.Node.{Node, List as Many, Tree, out-Node, map-Node, fold-Node, fold_out-Node, the_lemmas}
use Rattle.swc_tree_node.specs.declared.node.Node.TheOpen.{Node-F}
use Rattle.swc_tree_node.specs.declared.node.Node.TheVariants.{outs-List, outs-Tree}
use Rattle.swc_tree_renaming.specs.Apart.{Labelled, function_in, is_named, labelled_step, labels_no_function, names_function}
use Rattle.swc_base_early_errors.specs.Labels.{is_declaration, names_one}

abbrev L : Node → Labelled
L = fold-Node Labelled labelled_step

all_mapped : (ts : List Node) → list_all (λ (e : Labelled). e.names_none) (map L ts) ≡ list_all labels_no_function ts
all_mapped [] = refl
all_mapped (t ∷ ts) = ap (λ b. labels_no_function t && b) (all_mapped ts)

function_kept : (y : Node-F Node) → function_in (map-Node Node Labelled L y) ≡ function_in y
function_kept (Node-F.Tree kind.FnDecl ts) = refl
function_kept (Node-F.Tree _ ts) = refl
function_kept _ = refl

is_one : (t : Node) → (L t).is_function ≡ function_in (out-Node t)
is_one t = ap (λ (e : Labelled). e.is_function) (fold_out-Node Labelled labelled_step t) ∙ function_kept (out-Node t)

named_is : (ts : List Node) (i : ℕ) → is_named (slice_get (map L ts) i) ≡ is_declaration (slice_get ts i)
named_is [] i = refl
named_is (t ∷ ts) zero = is_one t
named_is (t ∷ ts) (suc i) = named_is ts i

names_is : (k : Kind) (ts : List Node) → names_function (Node-F.Tree k (map L ts)) ≡ names_one k ts
names_is kind.LabeledStmt ts = named_is ts labeled_stmt.BODY
names_is _ ts = refl

step_of : (t : Node) (y : Node-F Node) → out-Node t ≡ y → labels_no_function t ≡ (labelled_step (map-Node Node Labelled L y)).names_none
step_of t y o = ap (λ (e : Labelled). e.names_none) (fold_out-Node Labelled labelled_step t) ∙ ap (λ y. (labelled_step (map-Node Node Labelled L y)).names_none) o

pub labels_of_tree : (k : Kind) (ts : List Node) → labels_no_function (Tree k ts) ≡ (not (names_one k ts) && list_all labels_no_function ts)
labels_of_tree k ts =
    step_of (Tree k ts) (Node-F.Tree k ts) (outs-Tree k ts) ∙ ap (λ b. not b && list_all (λ (e : Labelled). e.names_none) (map L ts)) (names_is k ts) ∙ ap (λ b. not (names_one k ts) && b) (all_mapped ts)

pub labels_of_list : (ts : List Node) → labels_no_function (Many ts) ≡ list_all labels_no_function ts
labels_of_list ts = step_of (Many ts) (Node-F.List ts) (outs-List ts) ∙ all_mapped ts
