-- One step into a tree or a list: what stands there, and the scopes round it.
use Rattle.std.proofs.Common.{◌≡◌, ℕ, Option, Some, None, List, [], ◌∷◌, ◌++◌, map, sym, ap, ◌∙◌}
use Rattle.std.specs.List.{slice_get}
use Rattle.swc_tree_marks.specs.declared.ident.Ident.{Ident}
use Rattle.swc_tree_node.specs.declared.kind.Kind.{Kind}
use Rattle.swc_tree_node.specs.declared.node.Node.{Node, List as Many, Identifier, Tree, out-Node}
use Rattle.swc_tree_node.specs.declared.node.Node.TheOpen.{Node-F}
use Rattle.swc_tree_node.specs.declared.node.Node.TheVariants.{outs-Identifier, outs-List, outs-Tree}
use Rattle.swc_tree_scoping.specs.declared.places.Place.{Place}
use Rattle.swc_tree_scoping.specs.Places.{Path, children_in, given, opened_in, place_at, place_in}
use Rattle.swc_tree_scoping.specs.Scopes.{Round, rounds, seen_as, view_in}
use Rattle.swc_base_tables_laws.proofs.Declarers.{some_same}

abbrev pub place_step : Place → Node-F Node → ℕ → Path → Option (Place × Node)
place_step w y n q = given (slice_get (children_in y) n) None (λ c. place_at (place_in w y n) c q)

pub tree_step : (w : Place) (k : Kind) (ts : List Node) (n : ℕ) (q : Path) → place_at w (Tree k ts) (n ∷ q) ≡ place_step w (Node-F.Tree k ts) n q
tree_step w k ts n q = ap (λ y. place_step w y n q) (outs-Tree k ts)

pub list_step : (w : Place) (ts : List Node) (n : ℕ) (q : Path) → place_at w (Many ts) (n ∷ q) ≡ place_step w (Node-F.List ts) n q
list_step w ts n q = ap (λ y. place_step w y n q) (outs-List ts)

abbrev pub rounds_step : Place → Node-F Node → ℕ → Path → List Round
rounds_step w y n q = map (λ (s : Round). (n ∷ s.0, s.1)) (given (slice_get (children_in y) n) [] (λ c. rounds (place_in w y n) c q)) ++ seen_as (opened_in w y) (view_in y n)

pub tree_rounds : (w : Place) (k : Kind) (ts : List Node) (n : ℕ) (q : Path) → rounds w (Tree k ts) (n ∷ q) ≡ rounds_step w (Node-F.Tree k ts) n q
tree_rounds w k ts n q = ap (λ y. rounds_step w y n q) (outs-Tree k ts)

pub list_rounds : (w : Place) (ts : List Node) (n : ℕ) (q : Path) → rounds w (Many ts) (n ∷ q) ≡ rounds_step w (Node-F.List ts) n q
list_rounds w ts n q = ap (λ y. rounds_step w y n q) (outs-List ts)

-- what stands nowhere is no identifier
pub not_there : {A : Type 0} (o : Option (Place × Node)) (w : Place) (k : Kind) (i : Ident) → o ≡ None → o ≡ Some (w, Identifier k i) → A
not_there o w k i n e = let z : ◌≡◌ {A = Option (Place × Node)} (Some (w, Identifier k i)) None = sym e ∙ n in absurd (cc)

pub not_tree : {A : Type 0} (w v : Place) (k l : Kind) (ts : List Node) (i : Ident) → ◌≡◌ {A = Option (Place × Node)} (Some (w, Tree k ts)) (Some (v, Identifier l i)) → A
not_tree w v k l ts i e =
    let z : Node-F.Tree k ts ≡ Node-F.Identifier l i = sym (outs-Tree k ts) ∙ ap (λ (q : Place × Node). out-Node q.1) (some_same (w, Tree k ts) (v, Identifier l i) e) ∙ outs-Identifier l i in
    absurd (cc)

pub not_list : {A : Type 0} (w v : Place) (l : Kind) (ts : List Node) (i : Ident) → ◌≡◌ {A = Option (Place × Node)} (Some (w, Many ts)) (Some (v, Identifier l i)) → A
not_list w v l ts i e =
    let z : Node-F.List ts ≡ Node-F.Identifier l i = sym (outs-List ts) ∙ ap (λ (q : Place × Node). out-Node q.1) (some_same (w, Many ts) (v, Identifier l i) e) ∙ outs-Identifier l i in
    absurd (cc)

pub the_identifier : (w v : Place) (k l : Kind) (i j : Ident) → ◌≡◌ {A = Option (Place × Node)} (Some (w, Identifier k i)) (Some (v, Identifier l j)) → (w ≡ v) × (i ≡ j)
the_identifier w v k l i j e =
    let both = some_same (w, Identifier k i) (v, Identifier l j) e in
    let z : Node-F.Identifier k i ≡ Node-F.Identifier l j = sym (outs-Identifier k i) ∙ ap (λ (q : Place × Node). out-Node q.1) both ∙ outs-Identifier l j in
    let same : i ≡ j = cc in
    (ap (λ (q : Place × Node). q.0) both, same)

pub below_identifier : (w : Place) (k : Kind) (i : Ident) (n : ℕ) (q : Path) → place_at w (Identifier k i) (n ∷ q) ≡ None
below_identifier w k i n q = ap (λ y. place_step w y n q) (outs-Identifier k i)
