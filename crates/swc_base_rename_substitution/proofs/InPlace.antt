-- Nodes whose parts are given anew in place.
use Rattle.std.proofs.Common.{◌≡◌, ℕ, zero, suc, ◌+◌, ◌<◌, Bool, false, Some, List, [], ◌∷◌, ◌++◌, length, take, drop, refl, sym, ap, ◌∙◌, arith, add-one}
use Rattle.std.specs.List.{list_any, slice_get, slice_set}
use Rattle.swc_tree_node.specs.declared.kind.Kind.{Kind}
use Rattle.swc_tree_node.specs.declared.node.Node.{Node, List as Many, Tree, out-Node}
use Rattle.swc_tree_node.specs.declared.node.Node.TheVariants.{outs-List, outs-Tree}
use Rattle.swc_tree_node.specs.Changed.{with_children_at}
use Rattle.swc_tree_scoping.specs.Places.{children_in}
use Rattle.swc_base_rename_substitution.specs.declared.place.Place.{Place}
use Rattle.swc_base_rename_substitution.specs.declared.place.Below.TheVariants as below
use Rattle.swc_base_rename_substitution.specs.Places.{has_source}
use Rattle.swc_base_rename_substitution.specs.Identifiers.{Changes, writes_name}
use Rattle.swc_base_rename_substitution.specs.Substituted.{keeps_name, substituted}
use Rattle.swc_base_rename_substitution.specs.Walk.{StaysAs, each_substituted, is_exported_declaration, place_in}
use Rattle.swc_base_rename_substitution.proofs.Equations.{substituted_list}
use Rattle.swc_base_rename_substitution.proofs.Lists.{no_exports}
use Rattle.swc_base_rename_substitution.proofs.Trees.{unnamed_done}

-- ---- which nodes stay what they are

pub list_stays : (keeps : Bool) (p : Place) (t : Node) (ts xs : List Node) → t ≡ Many ts → xs ≡ ts → list_any is_exported_declaration xs ≡ false → StaysAs keeps p t (below.Items p)
list_stays keeps p t ts xs is same none m =
    ap (substituted m keeps p) is ∙ substituted_list m keeps p ts ∙ ap Many (no_exports m keeps p ts (sym (ap (list_any is_exported_declaration) same) ∙ none))
    ∙ sym (ap (λ y. with_children_at y (each_substituted m keeps (place_in keeps (below.Items p)) (children_in y))) (ap out-Node is ∙ outs-List ts))

pub tree_stays : (keeps : Bool) (p : Place) (t : Node) (k : Kind) (ts : List Node) (sourced : Bool) → t ≡ Tree k ts → sourced ≡ has_source ts → keeps_name keeps p k ≡ false → writes_name k ts ≡ false
    → StaysAs keeps p t (below.Fields p sourced k)
tree_stays keeps p t k ts sourced is from kept written m =
    ap (substituted m keeps p) is ∙ sym (unnamed_done m keeps p k ts (each_substituted m keeps (place_in keeps (below.Fields p (has_source ts) k)) ts) kept written refl)
    ∙ ap (λ b. Tree k (each_substituted m keeps (place_in keeps (below.Fields p b k)) ts)) (sym from)
    ∙ sym (ap (λ y. with_children_at y (each_substituted m keeps (place_in keeps (below.Fields p sourced k)) (children_in y))) (ap out-Node is ∙ outs-Tree k ts))

-- ---- one child more

set_at : (m : Changes) (keeps : Bool) (ps : ℕ → Place) (ts : List Node) (i : ℕ) (x : Node) → i < length ts → slice_get (each_substituted m keeps ps (take i ts) ++ drop i ts) i ≡ Some x
    → slice_set (each_substituted m keeps ps (take i ts) ++ drop i ts) i (substituted m keeps (ps i) x) ≡ each_substituted m keeps ps (take (suc i) ts) ++ drop (suc i) ts
set_at m keeps ps [] i x h g = absurd (omega arith)
set_at m keeps ps (t ∷ ts) zero x h g = let same : t ≡ x = cc in ap (λ z. substituted m keeps (ps zero) z ∷ ts) (sym same)
set_at m keeps ps (t ∷ ts) (suc i) x h g = ap (λ l. substituted m keeps (ps zero) t ∷ l) (set_at m keeps (λ i. ps (suc i)) ts i x (omega arith) g)

pub one_set : (m : Changes) (keeps : Bool) (ps : ℕ → Place) (ts ys : List Node) (i : ℕ) (x y : Node) (p : Place) → i < length ts → ys ≡ each_substituted m keeps ps (take i ts) ++ drop i ts → slice_get ys i ≡ Some x
    → p ≡ ps i → y ≡ substituted m keeps p x → slice_set ys i y ≡ each_substituted m keeps ps (take (i + 1) ts) ++ drop (i + 1) ts
one_set m keeps ps ts ys i x y p h was here at new = rw (new, at, was, add-one) (set_at m keeps ps ts i x h (rw (← was) here))
