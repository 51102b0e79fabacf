-- Paths that go through no export list, step by step.
use Rattle.std.proofs.Common.{◌≡◌, ℕ, Some, List, [], ◌∷◌, ◌++◌, sym, ap, ◌∙◌}
use Rattle.std.specs.List.{slice_get}
use Rattle.swc_tree_node.specs.declared.kind.Kind.{Kind}
use Rattle.swc_tree_node.specs.declared.slot.Role.TheVariants as role
use Rattle.swc_tree_node.specs.declared.node.Node.{Node, List as Many, Tree, out-Node}
use Rattle.swc_tree_node.specs.declared.node.Node.TheOpen.{Node-F}
use Rattle.swc_tree_node.specs.declared.node.Node.TheVariants.{outs-List, outs-Tree}
use Rattle.swc_tree_scoping.specs.declared.places.Place.{Place}
use Rattle.swc_tree_scoping.specs.Places.{Path, children_in, field_role, place_at, place_below}
use Rattle.swc_tree_scoping.proofs.Under.{place_under}
use Rattle.swc_base_tables_laws.proofs.Declarers.{some_same}

abbrev pub Unlisted : Node → Path → Type 0
Unlisted t p = (w : Place) (q below : Path) (i : ℕ) (v : Place) (k : Kind) (ts : List Node) → ◌≡◌ {A = Path} p (q ++ (i ∷ below)) → place_at w t q ≡ Some (v, Tree k ts) → field_role k i ≡ role.ExportLocal → ⊥

no_path : {A : Type 0} (q r : Path) (i : ℕ) → ◌≡◌ {A = Path} [] (q ++ (i ∷ r)) → A
no_path [] r i e = absurd (cc)
no_path (j ∷ q) r i e = absurd (cc)

pub unlisted_end : (t : Node) → Unlisted t []
unlisted_end t w q below i v k ts e there exports = no_path q below i e

pub unlisted_tree : (l : Kind) (cs : List Node) (n : ℕ) (p : Path) → (field_role l n ≡ role.ExportLocal → ⊥) → (c : Node) → slice_get cs n ≡ Some c → Unlisted c p → Unlisted (Tree l cs) (n ∷ p)
unlisted_tree l cs n p other c at rest w [] below i v k ts e there exports =
    let first : n ≡ i = cc in
    let same : Node-F.Tree l cs ≡ Node-F.Tree k ts = sym (outs-Tree l cs) ∙ ap (λ (q : Place × Node). out-Node q.1) (some_same (w, Tree l cs) (v, Tree k ts) there) ∙ outs-Tree k ts in
    let kinds : l ≡ k = cc in
    other (ap (λ n. field_role l n) first ∙ ap (λ l. field_role l i) kinds ∙ exports)
unlisted_tree l cs n p other c at rest w (m ∷ q) below i v k ts e there exports =
    let first : n ≡ m = cc in
    let path : p ≡ q ++ (i ∷ below) = cc in
    rest (place_below w (Tree l cs) n) q below i v k ts path (sym (place_under w (Tree l cs) c n q (ap (λ y. slice_get (children_in y) n) (outs-Tree l cs) ∙ at)) ∙ ap (λ n. place_at w (Tree l cs) (n ∷ q)) first ∙ there) exports

pub unlisted_list : (cs : List Node) (n : ℕ) (p : Path) (c : Node) → slice_get cs n ≡ Some c → Unlisted c p → Unlisted (Many cs) (n ∷ p)
unlisted_list cs n p c at rest w [] below i v k ts e there exports =
    let same : Node-F.List cs ≡ Node-F.Tree k ts = sym (outs-List cs) ∙ ap (λ (q : Place × Node). out-Node q.1) (some_same (w, Many cs) (v, Tree k ts) there) ∙ outs-Tree k ts in
    absurd (cc)
unlisted_list cs n p c at rest w (m ∷ q) below i v k ts e there exports =
    let first : n ≡ m = cc in
    let path : p ≡ q ++ (i ∷ below) = cc in
    rest (place_below w (Many cs) n) q below i v k ts path (sym (place_under w (Many cs) c n q (ap (λ y. slice_get (children_in y) n) (outs-List cs) ∙ at)) ∙ ap (λ n. place_at w (Many cs) (n ∷ q)) first ∙ there) exports
