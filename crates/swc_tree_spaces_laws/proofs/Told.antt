-- No node of types stands in a tree exactly if none is found in it.
use Rattle.std.proofs.Common.{◌≡◌, ℕ, zero, suc, Bool, true, false, ◌||◌, Option, Some, None, List, [], ◌∷◌, map, refl, sym, ap, ◌∙◌, subst}
use Rattle.std.specs.List.{list_any, slice_get}
use Rattle.swc_tree_node.specs.declared.kind.Kind.{Kind}
use Rattle.swc_tree_node.specs.declared.kind.Kind.TheVariants as kind
use Rattle.swc_tree_node.specs.declared.node.Node.{Node, Tree, out-Node, fold_out-Node, map-Node}
use Rattle.swc_tree_node.specs.declared.node.Node.TheOpen.{Node-F}
use Rattle.swc_tree_node.specs.declared.node.Node.TheVariants.{outs-Tree}
use Rattle.swc_tree_scoping.specs.declared.places.Place.{Place}
use Rattle.swc_tree_scoping.specs.Places.{Path, child, children_in, place_at, place_below, program_place}
use Rattle.swc_tree_scoping.proofs.Remarked.{tree_is}
use Rattle.swc_tree_scoping.proofs.Under.{by_children, no_place_under, place_under}
use Rattle.swc_tree_spaces.specs.NoTypes.{NoNamespaces, NoTypes}
use Rattle.swc_tree_spaces.specs.Spaces.{has_types, is_of_types, types_step}
use Rattle.swc_tree_spaces_laws.specs.Laws.{TypesAreTold}
use Rattle.swc_tree_spaces_laws.proofs.Standings.{NoneAt}

any_mapped : (ts : List Node) → list_any (λ x. x) (map has_types ts) ≡ list_any has_types ts
any_mapped [] = refl
any_mapped (t ∷ ts) = ap (λ b. has_types t || b) (any_mapped ts)

-- what is found in a node, by its layer
abbrev layer : Node-F Node → Bool
layer (Node-F.List ts) = list_any has_types ts
layer (Node-F.Tree k ts) = is_of_types k || list_any has_types ts
layer _ = false

by_layer : (y : Node-F Node) → types_step (map-Node Node Bool has_types y) ≡ layer y
by_layer (Node-F.List ts) = any_mapped ts
by_layer (Node-F.Tree k ts) = ap (λ b. is_of_types k || b) (any_mapped ts)
by_layer Node-F.Absent = refl
by_layer (Node-F.Flag x) = refl
by_layer (Node-F.Word x) = refl
by_layer (Node-F.Text x) = refl
by_layer (Node-F.Span x) = refl
by_layer (Node-F.Identifier k x) = refl

told : (t : Node) (y : Node-F Node) → out-Node t ≡ y → has_types t ≡ layer y
told t y o = fold_out-Node Bool types_step t ∙ by_layer (out-Node t) ∙ ap layer o

either_false : (a b : Bool) → (a || b) ≡ false → (a ≡ false) × (b ≡ false)
either_false true b h = absurd (cc)
either_false false b h = (refl, h)

both_false : (a b : Bool) → a ≡ false → b ≡ false → (a || b) ≡ false
both_false true b h g = absurd (cc)
both_false false b h g = g

none_of : (ts : List Node) (i : ℕ) (c : Node) → list_any has_types ts ≡ false → slice_get ts i ≡ Some c → has_types c ≡ false
none_of [] i c h e = absurd (cc)
none_of (t ∷ ts) zero c h e = let same : t ≡ c = cc in subst (λ c. has_types c ≡ false) same (either_false (has_types t) (list_any has_types ts) h).0
none_of (t ∷ ts) (suc i) c h e = none_of ts i c (either_false (has_types t) (list_any has_types ts) h).1 e

none_in : (ts : List Node) → ((i : ℕ) (c : Node) → slice_get ts i ≡ Some c → has_types c ≡ false) → list_any has_types ts ≡ false
none_in [] h = refl
none_in (t ∷ ts) h = both_false (has_types t) (list_any has_types ts) (h zero t refl) (none_in ts (λ i. h (suc i)))

-- ---- found in none, so none stands

below : (t c : Node) (i : ℕ) (y : Node-F Node) → out-Node t ≡ y → has_types t ≡ false → child t i ≡ Some c → has_types c ≡ false
below t c i (Node-F.List ts) o h e = none_of ts i c (sym (told t (Node-F.List ts) o) ∙ h) (sym (ap (λ y. slice_get (children_in y) i) o) ∙ e)
below t c i (Node-F.Tree k ts) o h e = none_of ts i c (either_false (is_of_types k) (list_any has_types ts) (sym (told t (Node-F.Tree k ts) o) ∙ h)).1 (sym (ap (λ y. slice_get (children_in y) i) o) ∙ e)
below t c i Node-F.Absent o h e = let z : Some c ≡ None = sym e ∙ ap (λ y. slice_get (children_in y) i) o in absurd (cc)
below t c i (Node-F.Flag x) o h e = let z : Some c ≡ None = sym e ∙ ap (λ y. slice_get (children_in y) i) o in absurd (cc)
below t c i (Node-F.Word x) o h e = let z : Some c ≡ None = sym e ∙ ap (λ y. slice_get (children_in y) i) o in absurd (cc)
below t c i (Node-F.Text x) o h e = let z : Some c ≡ None = sym e ∙ ap (λ y. slice_get (children_in y) i) o in absurd (cc)
below t c i (Node-F.Span x) o h e = let z : Some c ≡ None = sym e ∙ ap (λ y. slice_get (children_in y) i) o in absurd (cc)
below t c i (Node-F.Identifier k x) o h e = let z : Some c ≡ None = sym e ∙ ap (λ y. slice_get (children_in y) i) o in absurd (cc)

some_same : (a b : Place × Node) → Some a ≡ Some b → a ≡ b
some_same a b e = cc

here : (k : Kind) (ts : List Node) → has_types (Tree k ts) ≡ false → is_of_types k ≡ false
here k ts h = (either_false (is_of_types k) (list_any has_types ts) (sym (told (Tree k ts) (Node-F.Tree k ts) (outs-Tree k ts)) ∙ h)).0

stands_none : (p : Path) (w : Place) (t : Node) → has_types t ≡ false → (v : Place) (k : Kind) (ts : List Node) → place_at w t p ≡ Some (v, Tree k ts) → is_of_types k ≡ false
stands_none [] w t h v k ts e =
    let is : t ≡ Tree k ts = ap (λ (q : Place × Node). q.1) (some_same (w, t) (v, Tree k ts) e) in here k ts (subst (λ t. has_types t ≡ false) is h)
stands_none (i ∷ p) w t h v k ts e = at (λ c g l. stands_none p (place_below w t i) c g v k ts l) (child t i) refl
  where
    at : ((c : Node) → has_types c ≡ false → place_at (place_below w t i) c p ≡ Some (v, Tree k ts) → is_of_types k ≡ false) → (o : Option Node) → child t i ≡ o → is_of_types k ≡ false
    at none None o = let z : ◌≡◌ {A = Option (Place × Node)} (Some (v, Tree k ts)) None = sym e ∙ no_place_under w t i p o in absurd (cc)
    at none (Some c) o = none c (below t c i (out-Node t) refl h o) (sym (place_under w t c i p o) ∙ e)

-- ---- none stands, so none is found

found_none : (t : Node) (w : Place) → NoneAt w t → has_types t ≡ false
found_none = by_children (λ t. (w : Place) → NoneAt w t → has_types t ≡ false) step
  where
    step : (t : Node) → ((i : ℕ) (c : Node) → child t i ≡ Some c → (w : Place) → NoneAt w c → has_types c ≡ false) → (w : Place) → NoneAt w t → has_types t ≡ false
    step t each w n = at (out-Node t) refl
      where
        parts : (i : ℕ) (c : Node) → child t i ≡ Some c → has_types c ≡ false
        parts i c o = each i c o (place_below w t i) (λ q v k ts e. n (i ∷ q) v k ts (place_under w t c i q o ∙ e))

        at : (y : Node-F Node) → out-Node t ≡ y → has_types t ≡ false
        at (Node-F.List ts) o = told t (Node-F.List ts) o ∙ none_in ts (λ i c e. parts i c (ap (λ y. slice_get (children_in y) i) o ∙ e))
        at (Node-F.Tree k ts) o =
            told t (Node-F.Tree k ts) o
            ∙ both_false (is_of_types k) (list_any has_types ts) (n [] w k ts (ap (λ z. Some (w, z)) (tree_is t k ts o))) (none_in ts (λ i c e. parts i c (ap (λ y. slice_get (children_in y) i) o ∙ e)))
        at Node-F.Absent o = told t Node-F.Absent o
        at (Node-F.Flag x) o = told t (Node-F.Flag x) o
        at (Node-F.Word x) o = told t (Node-F.Word x) o
        at (Node-F.Text x) o = told t (Node-F.Text x) o
        at (Node-F.Span x) o = told t (Node-F.Span x) o
        at (Node-F.Identifier k x) o = told t (Node-F.Identifier k x) o

pub types_are_told : TypesAreTold
types_are_told t = ((λ h p w k ts e. stands_none p program_place t h w k ts e), (λ n. found_none t program_place n))

-- and so no namespace
pub no_types_no_namespaces : (t : Node) → NoTypes t → NoNamespaces t
no_types_no_namespaces t n p w ts e = let z : true ≡ false = n p w kind.TsModuleDecl ts e in absurd (cc)
